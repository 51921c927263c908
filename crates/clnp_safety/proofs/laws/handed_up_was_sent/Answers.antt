use Rattle.clnp_safety.proofs.Clocks.{run_stays, together_stays}
use Rattle.clnp_safety.proofs.Runs.{each_was_sent, run_is_honest}
use Rattle.clnp_safety.proofs.laws.handed_up_was_sent.Goals as goal

pub returns-clause-run : goal.returns-clause-run
returns-clause-run c plan fit closed = run_is_honest c.laws_of_steps.ensures plan fit closed (run_stays plan fit)

pub returns-clause-moves : goal.returns-clause-moves
returns-clause-moves c plan fit closed moves all = each_was_sent c.laws_of_steps.ensures plan fit closed moves (together_stays plan moves all)

pub returns-clause-together : goal.returns-clause-together
returns-clause-together c = each_was_sent c.laws_of_steps.ensures
