use Rattle.scenario.proofs.ScenarioWriting.ReadBack.{one_text, read_again}
use Rattle.scenario.proofs.scenario_writing.laws.texts_and_scenarios.Goals as goal

pub returns-clause-again : goal.returns-clause-again
returns-clause-again c = read_again c.accepted_is_fit.ensures c.what_is_written_is_read.ensures

pub returns-clause-one_text : goal.returns-clause-one_text
returns-clause-one_text c = one_text c.what_is_written_is_read.ensures
