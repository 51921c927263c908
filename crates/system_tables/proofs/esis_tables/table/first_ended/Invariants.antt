-- None has ended so far.
use Rattle.std.proofs.Common.{◌≡◌, drop}
use Rattle.std.specs.List.{position_from}
use Rattle.system_tables.specs.EsisTables.State.{AreWalked}
use Rattle.system_tables.proofs.EsisTables.Flushing.{has_ended}
use Rattle.system_tables.proofs.esis_tables.table.first_ended.Given as goal

abbrev pub invariant-loop-at : goal.invariant-loop-at
invariant-loop-at l = record {
  first : position_from (has_ended l.now) l.at (drop l.at l.slots.entries) ≡ position_from (has_ended l.now) 0 l.slots.entries;
  walked : AreWalked l.at l.soonest l.slots.entries;
}
