-- The openings so far have their runs.
use Rattle.std.proofs.Common.{◌≤◌, [], take}
use Rattle.system_tables.specs.Reassembly.Index.{IsIndexOf}
use Rattle.system_tables.proofs.reassembly.table.ending.open_all.Given as goal

abbrev pub invariant-loop-place : goal.invariant-loop-place
invariant-loop-place l =
    IsIndexOf [] (take l.place l.openings.list) l.runs.groups × (l.fn.runs.slots ≤ l.runs.slots) × (l.fn.runs.room ≤ l.runs.room)
