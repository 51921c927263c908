-- No page so far has such a run.
use Rattle.std.proofs.Common.{◌≡◌, false, take}
use Rattle.std.specs.List.{list_any}
use Rattle.system_tables.specs.Reassembly.Pages.{ends_behind}
use Rattle.system_tables.proofs.reassembly.runs.first_behind.Given as goal

abbrev pub invariant-loop-at : goal.invariant-loop-at
invariant-loop-at l = list_any (ends_behind l.place) (take l.at l.pages) ≡ false
