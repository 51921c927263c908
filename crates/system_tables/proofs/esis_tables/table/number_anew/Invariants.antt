-- So many numbers, from the first on, have no gaps before them.
use Rattle.std.proofs.Common.{◌≡◌, ◌-◌, ◌≤◌, length}
use Rattle.system_tables.specs.EsisTables.Numbers.{KeepTheSame, count_above}
use Rattle.system_tables.proofs.esis_tables.table.number_anew.Given as goal

abbrev pub invariant-loop-number : goal.invariant-loop-number
invariant-loop-number l =
    KeepTheSame l.initial.slots.entries l.slots.entries
    × (count_above l.number l.slots.entries ≤ length l.initial.slots.entries - l.number)
    × (l.slots.limit ≡ l.initial.slots.limit)
