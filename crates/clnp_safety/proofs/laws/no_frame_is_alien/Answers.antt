use Rattle.clnp_safety.proofs.Known.{none_is_alien}
use Rattle.clnp_safety.proofs.laws.no_frame_is_alien.Goals as goal

pub returns : goal.returns
returns c = none_is_alien c.laws_of_steps.ensures
