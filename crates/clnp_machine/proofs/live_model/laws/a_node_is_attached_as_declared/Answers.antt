use Rattle.clnp_machine.proofs.LiveModel.Attachments.{course_attached}
use Rattle.clnp_machine.proofs.live_model.laws.a_node_is_attached_as_declared.Goals as goal

pub returns-clause-stays : goal.returns-clause-stays
returns-clause-stays c = course_attached
