use Rattle.clnp_safety.proofs.Runs.{ranges_are_carried}
use Rattle.clnp_safety.proofs.laws.ranges_of_units_are_carried.Goals as goal

pub returns : goal.returns
returns c = ranges_are_carried c.laws_of_steps.ensures
