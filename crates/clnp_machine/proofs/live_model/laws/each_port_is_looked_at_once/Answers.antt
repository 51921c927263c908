use Rattle.clnp_machine.proofs.LiveModel.Courses.{course_looks}
use Rattle.clnp_machine.proofs.live_model.laws.each_port_is_looked_at_once.Goals as goal

pub returns : goal.returns
returns c = course_looks
