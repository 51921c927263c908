use Rattle.system_tables.proofs.ReassemblyFacts.Ready.{made_whole, none_whole-after, none_whole-released, none_whole-undone, none_whole-without_due}
use Rattle.system_tables.proofs.reassembly.laws.whole_only_where_an_answer_says_so.Goals as goal

pub returns-clause-answered : goal.returns-clause-answered
returns-clause-answered g c = λ limits now arrival buffers e. made_whole limits now arrival buffers e

pub returns-clause-else_none : goal.returns-clause-else_none
returns-clause-else_none g c = λ limits now arrival buffers none not. none_whole-after limits now arrival buffers none not

pub returns-clause-taken_out : goal.returns-clause-taken_out
returns-clause-taken_out g c = λ limits now arrival buffers none e. none_whole-released limits now arrival buffers none e

pub returns-clause-undone : goal.returns-clause-undone
returns-clause-undone g c = λ limits now arrival buffers none e. none_whole-undone limits now arrival buffers none e

pub returns-clause-expired : goal.returns-clause-expired
returns-clause-expired g c = λ ended buffers none. none_whole-without_due ended buffers none
