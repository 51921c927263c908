-- The runs that are left are the same.
use Rattle.std.proofs.Common.{◌≡◌, ◌++◌, length}
use Rattle.system_tables.specs.Reassembly.Pages.{on_pages}
use Rattle.system_tables.proofs.reassembly.runs.Group.next.Given as goal

abbrev pub invariant-loop-run : goal.invariant-loop-run
invariant-loop-run l = l.self-inside.first.now ++ on_pages l.self-inside.others ≡ l.initial.self-inside.first.now ++ on_pages l.initial.self-inside.others

abbrev pub decreases-loop-run : goal.decreases-loop-run
decreases-loop-run l = length l.self-inside.others
