use Rattle.clnp_safety.proofs.Clocks.{together_stays}
use Rattle.clnp_safety.proofs.Runs.{each_is_founded}
use Rattle.clnp_safety.proofs.laws.reports_and_echoes_are_of_its_own.Goals as goal

pub returns-clause-moves : goal.returns-clause-moves
returns-clause-moves c plan fit closed moves all = each_is_founded c.laws_of_steps.ensures plan fit closed moves (together_stays plan moves all)

pub returns-clause-together : goal.returns-clause-together
returns-clause-together c = each_is_founded c.laws_of_steps.ensures
