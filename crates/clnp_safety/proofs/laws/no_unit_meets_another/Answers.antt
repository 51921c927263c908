use Rattle.clnp_machine.specs.ClnpNetwork.Run.{moves_made}
use Rattle.clnp_safety.proofs.Clocks.{run_stays, together_stays}
use Rattle.clnp_safety.proofs.Runs.{none_interferes}
use Rattle.clnp_safety.proofs.laws.no_unit_meets_another.Goals as goal

pub returns-clause-run : goal.returns-clause-run
returns-clause-run c plan fit closed = none_interferes c.laws_of_steps.ensures plan fit closed (moves_made plan) (run_stays plan fit)

pub returns-clause-moves : goal.returns-clause-moves
returns-clause-moves c plan fit closed moves all = none_interferes c.laws_of_steps.ensures plan fit closed moves (together_stays plan moves all)

pub returns-clause-together : goal.returns-clause-together
returns-clause-together c = none_interferes c.laws_of_steps.ensures
