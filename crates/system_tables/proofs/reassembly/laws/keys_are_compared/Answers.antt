use Rattle.system_tables.proofs.ReassemblyFacts.Keys.{same_key-Decides}
use Rattle.system_tables.proofs.reassembly.laws.keys_are_compared.Goals as goal

pub returns : goal.returns
returns c = λ a b. same_key-Decides a b
