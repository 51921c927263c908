-- The entries so far have filled their places.
use Rattle.std.proofs.Common.{◌≤◌, take}
use Rattle.system_tables.specs.Reassembly.Index.{IsIndexOf}
use Rattle.system_tables.proofs.reassembly.table.ending.fill_all.Given as goal

abbrev pub invariant-loop-index : goal.invariant-loop-index
invariant-loop-index l =
    IsIndexOf (take l.index l.entries) l.openings.list l.runs.groups × (l.fn.runs.slots ≤ l.runs.slots) × (l.fn.runs.room ≤ l.runs.room)
