-- None of those so far is at the address.
use Rattle.std.proofs.Common.{◌≡◌, drop}
use Rattle.std.specs.List.{list_any}
use Rattle.system_tables.specs.EsisTables.State.{is_kept_at}
use Rattle.system_tables.proofs.esis_tables.table.Table.is_held_at.Given as goal

abbrev pub invariant-loop-at : goal.invariant-loop-at
invariant-loop-at l = list_any (is_kept_at l.now l.snpa) (drop l.at l.self.entries) ≡ list_any (is_kept_at l.now l.snpa) l.self.entries
