use Rattle.clnp_machine.proofs.LiveModel.Courses.{course_takes}
use Rattle.clnp_machine.proofs.live_model.laws.links_take_what_is_written.Goals as goal

pub returns : goal.returns
returns c = course_takes
