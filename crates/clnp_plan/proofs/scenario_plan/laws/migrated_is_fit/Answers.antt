use Rattle.clnp_plan.proofs.ScenarioPlan.Migrated.{migrated_fit}
use Rattle.clnp_plan.proofs.scenario_plan.laws.migrated_is_fit.Goals as goal

pub returns-clause-fit : goal.returns-clause-fit
returns-clause-fit c = migrated_fit

pub returns-clause-together : goal.returns-clause-together
returns-clause-together c plan fit one = fit.together one
