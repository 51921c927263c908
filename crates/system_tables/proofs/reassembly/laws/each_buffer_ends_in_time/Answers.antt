use Rattle.system_tables.proofs.ReassemblyFacts.LawTimes.{after_in_time, without_in_time, undone_in_time}
use Rattle.system_tables.proofs.reassembly.laws.each_buffer_ends_in_time.Goals as goal

pub returns-clause-after : goal.returns-clause-after
returns-clause-after g c = λ limits now arrival buffers all. after_in_time limits now arrival buffers all

pub returns-clause-without : goal.returns-clause-without
returns-clause-without g c = λ limits key buffers all. without_in_time limits key buffers all

pub returns-clause-undone : goal.returns-clause-undone
returns-clause-undone g c = λ limits key buffers all. undone_in_time limits key buffers all
