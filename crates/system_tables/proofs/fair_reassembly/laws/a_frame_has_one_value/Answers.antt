use Rattle.system_tables.proofs.FairReassembly.Coming.{value_is}
use Rattle.system_tables.proofs.fair_reassembly.laws.a_frame_has_one_value.Goals as goal

pub returns : goal.returns
returns c = λ frame v rest begins. value_is frame v rest begins
