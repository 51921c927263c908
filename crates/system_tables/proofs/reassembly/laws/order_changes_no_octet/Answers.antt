use Rattle.system_tables.proofs.ReassemblyFacts.LawOrder.{same_data, same_whole}
use Rattle.system_tables.proofs.reassembly.laws.order_changes_no_octet.Goals as goal

pub returns-clause-octets : goal.returns-clause-octets
returns-clause-octets g c = λ read buffer other shapes same agree. same_data read buffer other shapes same agree

pub returns-clause-whole : goal.returns-clause-whole
returns-clause-whole g c = λ buffer other shapes same. same_whole buffer other shapes same
