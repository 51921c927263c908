-- The latest of those so far.
use Rattle.std.proofs.Common.{◌≡◌, None, drop}
use Rattle.system_tables.specs.EsisTables.State.{latest_kept}
use Rattle.system_tables.proofs.esis_tables.table.Table.last_held.Given as goal

abbrev pub invariant-loop-at : goal.invariant-loop-at
invariant-loop-at l = latest_kept l.now l.latest (drop l.at l.self.entries) ≡ latest_kept l.now None l.self.entries
