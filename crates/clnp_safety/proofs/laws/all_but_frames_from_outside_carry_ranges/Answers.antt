use Rattle.clnp_safety.proofs.Carried.{ranges_or_outside}
use Rattle.clnp_safety.proofs.laws.all_but_frames_from_outside_carry_ranges.Goals as goal

pub returns : goal.returns
returns c = ranges_or_outside c.laws_of_steps.ensures
