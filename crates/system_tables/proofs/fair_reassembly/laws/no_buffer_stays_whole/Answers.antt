use Rattle.system_tables.specs.FairReassembly.Classes.{frames_of, limits_at}
use Rattle.system_tables.proofs.FairReassembly.Kept.{none_whole}
use Rattle.system_tables.proofs.fair_reassembly.laws.no_buffer_stays_whole.Goals as goal

pub returns : goal.returns
returns c = λ s place frames. none_whole (limits_at s place) (frames_of s place frames)
