use Rattle.clnp_safety.proofs.Clocks.{together_stays}
use Rattle.clnp_safety.proofs.Runs.{network_is_sound}
use Rattle.clnp_safety.proofs.laws.networks_of_runs_are_sound.Goals as goal

pub returns-clause-moves : goal.returns-clause-moves
returns-clause-moves c plan fit closed moves all = network_is_sound c.laws_of_steps.ensures plan fit closed moves (together_stays plan moves all)

pub returns-clause-together : goal.returns-clause-together
returns-clause-together c = network_is_sound c.laws_of_steps.ensures
