-- The least of those so far.
use Rattle.std.proofs.Common.{◌≡◌, None, drop}
use Rattle.system_tables.specs.EsisTables.Numbers.{least_above}
use Rattle.system_tables.proofs.esis_tables.table.least_above.Given as goal

abbrev pub invariant-loop-at : goal.invariant-loop-at
invariant-loop-at l = least_above l.number l.least (drop l.at l.slots.entries) ≡ least_above l.number None l.slots.entries
