use Rattle.system_tables.specs.Reassembly.Buffer.{refusal, with_kept}
use Rattle.system_tables.proofs.ReassemblyFacts.LawKept.{held-after, kept-after, may_be_kept, refused_changes_nothing}
use Rattle.system_tables.proofs.reassembly.laws.a_kept_segment_counts_once.Goals as goal

pub returns-clause-room : goal.returns-clause-room
returns-clause-room g c = λ limits arrival buffers e. may_be_kept limits arrival buffers e

pub returns-clause-held : goal.returns-clause-held
returns-clause-held g c = λ limits now arrival buffers e. held-after limits now arrival buffers e

pub returns-clause-kept : goal.returns-clause-kept
returns-clause-kept g c = λ limits now arrival buffers e. kept-after limits now arrival buffers e

pub returns-clause-refused : goal.returns-clause-refused
returns-clause-refused g c = λ limits now arrival buffers some. refused_changes_nothing (refusal limits arrival buffers) buffers (with_kept limits now arrival buffers) some
