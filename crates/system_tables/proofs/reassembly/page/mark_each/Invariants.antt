-- The runs so far are marked.
use Rattle.std.proofs.Common.{◌≡◌, ◌++◌, map, take, drop}
use Rattle.system_tables.specs.Reassembly.Runs.{marked}
use Rattle.system_tables.proofs.reassembly.page.mark_each.Given as goal

abbrev pub invariant-loop-run : goal.invariant-loop-run
invariant-loop-run l = l.runs ≡ map (marked l.from l.to l.by) (take l.run-index l.initial.runs) ++ drop l.run-index l.initial.runs
