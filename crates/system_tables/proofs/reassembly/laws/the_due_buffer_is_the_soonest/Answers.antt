use Rattle.system_tables.proofs.ReassemblyFacts.LawDue.{due_is, none_due, due_of_none}
use Rattle.system_tables.proofs.ReassemblyFacts.LawTimes.{none_due-after, none_due-without}
use Rattle.system_tables.proofs.reassembly.laws.the_due_buffer_is_the_soonest.Goals as goal

pub returns-clause-due : goal.returns-clause-due
returns-clause-due g c = λ now buffers ended e. due_is now buffers ended e

pub returns-clause-none : goal.returns-clause-none
returns-clause-none g c = λ now buffers. ((λ e. none_due now buffers e), (λ all. due_of_none now buffers all))

pub returns-clause-kept : goal.returns-clause-kept
returns-clause-kept g c = λ limits now arrival buffers hold alive none. none_due-after limits now arrival hold alive buffers none

pub returns-clause-taken_out : goal.returns-clause-taken_out
returns-clause-taken_out g c = λ now key buffers none. none_due-without now key buffers none
