use Rattle.std.proofs.Common.{take}
use Rattle.system_tables.specs.Forwarding.Stands.{Stands}
use Rattle.system_tables.proofs.forwarding.routes.Routes.from_list.Given as goal

abbrev pub invariant-loop-second : goal.invariant-loop-second
invariant-loop-second l = Stands l.routes (take l.second l.list)
