use Rattle.system_tables.proofs.ReassemblyFacts.LawBuffers.{undone-after}
use Rattle.system_tables.proofs.reassembly.laws.undoing_gives_back.Goals as goal

pub returns : goal.returns
returns g c = λ limits now arrival buffers full e. undone-after limits now arrival buffers full e
