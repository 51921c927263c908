use Rattle.system_tables.proofs.ReassemblyFacts.LawBuffers.{none_empty-after, none_empty-without, none_empty-undone}
use Rattle.system_tables.proofs.reassembly.laws.no_buffer_is_empty.Goals as goal

pub returns-clause-after : goal.returns-clause-after
returns-clause-after g c = λ limits now arrival buffers full. none_empty-after limits now arrival buffers full

pub returns-clause-without : goal.returns-clause-without
returns-clause-without g c = λ key buffers full. none_empty-without key buffers full

pub returns-clause-undone : goal.returns-clause-undone
returns-clause-undone g c = λ key buffers full. none_empty-undone key buffers full
