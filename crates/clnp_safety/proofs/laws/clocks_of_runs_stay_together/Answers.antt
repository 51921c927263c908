use Rattle.clnp_safety.proofs.Clocks.{front_stays, plan_stays, run_stays}
use Rattle.clnp_safety.proofs.laws.clocks_of_runs_stay_together.Goals as goal

pub returns-clause-called : goal.returns-clause-called
returns-clause-called c = plan_stays

pub returns-clause-made : goal.returns-clause-made
returns-clause-made c = run_stays

pub returns-clause-front : goal.returns-clause-front
returns-clause-front c = front_stays
