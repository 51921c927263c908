use Rattle.clnp_safety.proofs.Clocks.{together_stays}
use Rattle.clnp_safety.proofs.Runs.{units_are_held_apart}
use Rattle.clnp_safety.proofs.laws.units_are_held_apart.Goals as goal

pub returns-clause-moves : goal.returns-clause-moves
returns-clause-moves c plan fit closed moves all = units_are_held_apart c.laws_of_steps.ensures plan fit closed moves (together_stays plan moves all)

pub returns-clause-together : goal.returns-clause-together
returns-clause-together c = units_are_held_apart c.laws_of_steps.ensures
