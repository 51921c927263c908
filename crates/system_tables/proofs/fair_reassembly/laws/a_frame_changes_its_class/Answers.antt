use Rattle.system_tables.proofs.FairReassembly.Behind.{others_stay_so, own_changes}
use Rattle.system_tables.proofs.fair_reassembly.laws.a_frame_changes_its_class.Goals as goal

pub returns-clause-own : goal.returns-clause-own
returns-clause-own c = λ s place before came is. own_changes s place before came is

pub returns-clause-others : goal.returns-clause-others
returns-clause-others c = λ s place before came other. others_stay_so s place before came other
