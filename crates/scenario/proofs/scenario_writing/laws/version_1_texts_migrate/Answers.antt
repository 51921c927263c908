use Rattle.std.proofs.Common.{refl}
use Rattle.scenario.specs.ScenarioWriting.Seeds.{storm}
use Rattle.scenario.proofs.ScenarioWriting.Migrating.{text_migrates}
use Rattle.scenario.proofs.scenario_writing.laws.version_1_texts_migrate.Goals as goal

pub returns-clause-each : goal.returns-clause-each
returns-clause-each c plan fit = text_migrates plan (c.what_is_written_is_read.ensures plan fit)

pub returns-clause-storms : goal.returns-clause-storms
returns-clause-storms c seed = text_migrates (storm seed) (c.storms_are_scenarios.ensures.text seed) refl
