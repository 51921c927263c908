use Rattle.system_tables.proofs.FairReassembly.Ending.{fewer_without_due, none_ends, one_ends}
use Rattle.system_tables.proofs.fair_reassembly.laws.buffers_end_until_none_is_due.Goals as goal

pub returns-clause-none : goal.returns-clause-none
returns-clause-none c = λ now buffers none. none_ends now buffers none

pub returns-clause-next : goal.returns-clause-next
returns-clause-next c = λ now buffers ended is. one_ends now buffers ended is

pub returns-clause-fewer : goal.returns-clause-fewer
returns-clause-fewer c = λ now buffers ended is. fewer_without_due now buffers ended is
