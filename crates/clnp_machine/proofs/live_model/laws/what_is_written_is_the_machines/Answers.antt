use Rattle.clnp_machine.proofs.LiveModel.Courses.{course_moment, course_steps}
use Rattle.clnp_machine.proofs.live_model.laws.what_is_written_is_the_machines.Goals as goal

pub returns-clause-steps : goal.returns-clause-steps
returns-clause-steps c = course_steps

pub returns-clause-moment : goal.returns-clause-moment
returns-clause-moment c = course_moment
