-- The entries so far are lowered.
use Rattle.std.proofs.Common.{◌≡◌, ◌++◌, map, take, drop}
use Rattle.system_tables.specs.EsisTables.Numbers.{lowered}
use Rattle.system_tables.proofs.esis_tables.table.lower.Given as goal

abbrev pub invariant-loop-at : goal.invariant-loop-at
invariant-loop-at l =
    (l.slots.entries ≡ map (lowered l.above l.by) (take l.at l.initial.slots.entries) ++ drop l.at l.initial.slots.entries)
    × (l.slots.limit ≡ l.initial.slots.limit)
