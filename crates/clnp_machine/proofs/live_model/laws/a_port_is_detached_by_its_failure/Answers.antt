use Rattle.clnp_machine.proofs.LiveModel.Courses.{course_gone, course_ports}
use Rattle.clnp_machine.proofs.live_model.laws.a_port_is_detached_by_its_failure.Goals as goal

pub returns-clause-ports : goal.returns-clause-ports
returns-clause-ports c = course_ports

pub returns-clause-told : goal.returns-clause-told
returns-clause-told c = course_gone
