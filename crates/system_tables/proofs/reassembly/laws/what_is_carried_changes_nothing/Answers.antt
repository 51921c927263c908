use Rattle.system_tables.proofs.ReassemblyFacts.Mapped.{answer-mapped, after-mapped, without-mapped, undone-mapped, due-mapped, without_due-mapped, buffer_of-mapped, held-mapped, kept-mapped, is_whole-mapped, first_carried-mapped, data_of-mapped}
use Rattle.system_tables.proofs.reassembly.laws.what_is_carried_changes_nothing.Goals as goal

pub returns-clause-answer : goal.returns-clause-answer
returns-clause-answer g c = λ f limits now arrival buffers. answer-mapped f limits now arrival buffers

pub returns-clause-after : goal.returns-clause-after
returns-clause-after g c = λ f limits now arrival buffers. after-mapped f limits now arrival buffers

pub returns-clause-without : goal.returns-clause-without
returns-clause-without g c = λ f key buffers. without-mapped f key buffers

pub returns-clause-undone : goal.returns-clause-undone
returns-clause-undone g c = λ f key buffers. undone-mapped f key buffers

pub returns-clause-due : goal.returns-clause-due
returns-clause-due g c = λ f now buffers. due-mapped f now buffers

pub returns-clause-without_due : goal.returns-clause-without_due
returns-clause-without_due g c = λ f ended buffers. without_due-mapped f ended buffers

pub returns-clause-buffer_of : goal.returns-clause-buffer_of
returns-clause-buffer_of g c = λ f key buffers. buffer_of-mapped f key buffers

pub returns-clause-held : goal.returns-clause-held
returns-clause-held g c = λ f buffers. held-mapped f buffers

pub returns-clause-kept : goal.returns-clause-kept
returns-clause-kept g c = λ f buffers. kept-mapped f buffers

pub returns-clause-whole : goal.returns-clause-whole
returns-clause-whole g c = λ f buffer. is_whole-mapped f buffer

pub returns-clause-first_carried : goal.returns-clause-first_carried
returns-clause-first_carried g c = λ f buffer. first_carried-mapped f buffer

pub returns-clause-data : goal.returns-clause-data
returns-clause-data g c = λ f read read_mapped buffer same. data_of-mapped f read read_mapped buffer same
