use Rattle.system_tables.specs.FairReassembly.Classes.{frames_of, limits_at}
use Rattle.system_tables.proofs.FairReassembly.Kept.{held_within, within_limits}
use Rattle.system_tables.proofs.fair_reassembly.laws.budgets_are_kept.Goals as goal

pub returns-clause-each : goal.returns-clause-each
returns-clause-each c = λ s place frames. within_limits (limits_at s place) (frames_of s place frames)

pub returns-clause-sum : goal.returns-clause-sum
returns-clause-sum c = λ s frames. held_within s frames
