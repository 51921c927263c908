use Rattle.std.proofs.Common.{[]}
use Rattle.scenario.specs.ScenarioWriting.Seeds.{storm, two_networks}
use Rattle.scenario.proofs.ScenarioWriting.Seeded.{declared_text, declared_text_read, storm_closed, storm_fit}
use Rattle.scenario.proofs.scenario_writing.laws.storms_are_scenarios.Goals as goal

pub returns-clause-fit : goal.returns-clause-fit
returns-clause-fit c seed = storm_fit seed (c.accepted_is_fit.ensures declared_text (two_networks []) declared_text_read)

pub returns-clause-closed : goal.returns-clause-closed
returns-clause-closed c seed = storm_closed seed

pub returns-clause-text : goal.returns-clause-text
returns-clause-text c seed =
    c.what_is_written_is_read.ensures (storm seed) (storm_fit seed (c.accepted_is_fit.ensures declared_text (two_networks []) declared_text_read))
