-- The runs so far have the other indices.
use Rattle.std.proofs.Common.{◌≡◌, ◌++◌, map, take, drop}
use Rattle.system_tables.specs.Reassembly.Runs.{renamed}
use Rattle.system_tables.proofs.reassembly.page.rename_all.Given as goal

abbrev pub invariant-loop-run : goal.invariant-loop-run
invariant-loop-run l = l.runs ≡ map (renamed l.names) (take l.run-index l.initial.runs) ++ drop l.run-index l.initial.runs
