use Rattle.system_tables.proofs.FairReassembly.Places.{has_its_table}
use Rattle.system_tables.proofs.fair_reassembly.laws.each_share_has_its_table.Goals as goal

pub returns : goal.returns
returns c = λ sources i source distinct there. has_its_table sources i source distinct there
