-- The key stands between two places, if anywhere.
use Rattle.std.proofs.Common.{◌≤◌, ◌-◌, length}
use Rattle.system_tables.specs.EsisTables.Order.{IsRising}
use Rattle.system_tables.specs.EsisTables.State.{key_in}
use Rattle.system_tables.proofs.EsisTables.Places.{IsBetween}
use Rattle.system_tables.proofs.esis_tables.table.Table.search.Given as goal

abbrev pub invariant-loop-low : goal.invariant-loop-low
invariant-loop-low l =
    (l.low ≤ l.high) × (l.high ≤ length l.self.entries) × (IsRising key_in l.self.entries → IsBetween l.self.entries l.key l.low l.high)

abbrev pub decreases-loop-low : goal.decreases-loop-low
decreases-loop-low l = l.high - l.low
