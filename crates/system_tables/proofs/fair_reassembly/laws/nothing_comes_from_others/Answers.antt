use Rattle.system_tables.proofs.FairReassembly.Alone.{alone, same}
use Rattle.system_tables.proofs.FairReassembly.Sources.{source_alone}
use Rattle.system_tables.proofs.fair_reassembly.laws.nothing_comes_from_others.Goals as goal

pub returns-clause-alone : goal.returns-clause-alone
returns-clause-alone c = λ s place frames. alone s place frames

pub returns-clause-same : goal.returns-clause-same
returns-clause-same c = λ s place frames others e. same s place frames others e

pub returns-clause-source : goal.returns-clause-source
returns-clause-source c = λ s i share frames distinct there. source_alone s i share distinct there frames
