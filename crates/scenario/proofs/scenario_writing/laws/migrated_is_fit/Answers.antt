use Rattle.scenario.specs.ScenarioWriting.Migration.{migrated}
use Rattle.scenario.proofs.scenario_writing.laws.migrated_is_fit.Goals as goal

pub returns-clause-fit : goal.returns-clause-fit
returns-clause-fit c = c.migrated_is_fit.ensures.fit

pub returns-clause-together : goal.returns-clause-together
returns-clause-together c = c.migrated_is_fit.ensures.together

pub returns-clause-text : goal.returns-clause-text
returns-clause-text c plan fit = c.what_is_written_is_read.ensures (migrated plan) (c.migrated_is_fit.ensures.fit plan fit)
