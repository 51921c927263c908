use Rattle.std.proofs.Common.{arith}
use Rattle.system_tables.proofs.EsisTables.Slots.{as_many}
use Rattle.system_tables.proofs.esis_tables.table.slots.Slots.len.Goals as goal

pub returns : goal.returns
returns c = omega (arith, as_many c.self.invariant.0 c.self.view_is)
