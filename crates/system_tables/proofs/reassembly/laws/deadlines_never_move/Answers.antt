use Rattle.system_tables.proofs.ReassemblyFacts.LawBuffers.{stays_with_deadline}
use Rattle.system_tables.proofs.reassembly.laws.deadlines_never_move.Goals as goal

pub returns : goal.returns
returns g c = λ limits now arrival buffers key. stays_with_deadline limits now arrival buffers key
