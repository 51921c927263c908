-- No page so far has such a hole.
use Rattle.std.proofs.Common.{◌≡◌, false, take}
use Rattle.std.specs.List.{list_any}
use Rattle.system_tables.specs.Reassembly.Pages.{on_pages}
use Rattle.system_tables.specs.Reassembly.Runs.{is_gap}
use Rattle.system_tables.proofs.reassembly.runs.have_gap.Given as goal

abbrev pub invariant-loop-at : goal.invariant-loop-at
invariant-loop-at l = list_any (is_gap l.from l.to) (on_pages (take l.at l.pages)) ≡ false
