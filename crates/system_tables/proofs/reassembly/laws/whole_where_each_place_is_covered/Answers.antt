use Rattle.system_tables.proofs.ReassemblyFacts.LawOrder.{covered_by_some, whole_where_covered}
use Rattle.system_tables.proofs.reassembly.laws.whole_where_each_place_is_covered.Goals as goal

pub returns-clause-covered : goal.returns-clause-covered
returns-clause-covered g c = λ arrivals place. covered_by_some arrivals place

pub returns-clause-whole : goal.returns-clause-whole
returns-clause-whole g c = λ buffer. whole_where_covered buffer
