-- What the runs that are left take out.
use Rattle.std.proofs.Common.{◌≡◌, length}
use Rattle.std.specs.List.{AllByRecursion}
use Rattle.system_tables.specs.Reassembly.Entries.{IsWithin}
use Rattle.system_tables.specs.Reassembly.Index.{emptied_by}
use Rattle.system_tables.proofs.reassembly.table.ending.take_each.Given as goal

pub record IsTaken (l : goal.Live-loop-run) : Type 0 where
  pub entries : emptied_by l.runs l.segments.entries ≡ emptied_by l.fn.runs l.fn.segments.entries
  pub number : length l.segments.entries ≡ length l.fn.segments.entries
  pub room : l.segments.room ≡ l.fn.segments.room
  pub within : AllByRecursion (λ run. IsWithin (length l.fn.segments.entries) run.by) l.runs

abbrev pub invariant-loop-run : goal.invariant-loop-run
invariant-loop-run l = IsTaken l

abbrev pub decreases-loop-run : goal.decreases-loop-run
decreases-loop-run l = length l.runs
