use Rattle.system_tables.proofs.FairReassembly.Places.{others_stay}
use Rattle.system_tables.proofs.fair_reassembly.laws.other_tables_stay.Goals as goal

pub returns : goal.returns
returns c = λ place state new. others_stay place state new
