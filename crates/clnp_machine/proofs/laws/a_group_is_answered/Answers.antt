use Rattle.clnp_machine.proofs.Saying.{group_answered, group_unanswered}
use Rattle.clnp_machine.proofs.laws.a_group_is_answered.Goals as goal

pub returns-clause-answered : goal.returns-clause-answered
returns-clause-answered c s port sender to_group p following = group_answered s (record { port = port; snpa = sender }) to_group p following

pub returns-clause-unanswered : goal.returns-clause-unanswered
returns-clause-unanswered c s port sender to_group p following = group_unanswered s (record { port = port; snpa = sender }) to_group p following
