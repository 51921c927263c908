use Rattle.system_tables.proofs.FairReassembly.Behind.{behind_comes, behind_unread}
use Rattle.system_tables.proofs.fair_reassembly.laws.tables_stand_behind_each_frame.Goals as goal

pub returns-clause-unread : goal.returns-clause-unread
returns-clause-unread c = λ s before came state none behind. behind_unread s before came state none behind

pub returns-clause-comes : goal.returns-clause-comes
returns-clause-comes c = λ s place before came old new is behind changed. behind_comes s place before came old new is behind changed
