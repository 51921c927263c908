use Rattle.scenario.proofs.ScenarioWriting.ReadBack.{what_is_written}
use Rattle.scenario.proofs.scenario_writing.laws.what_is_written_is_read.Goals as goal

pub returns : goal.returns
returns c = what_is_written c.text_reads_back.ensures
