use Rattle.system_tables.proofs.ReassemblyFacts.Due.{IsFound}
use Rattle.system_tables.proofs.reassembly.table.ending.soonest_place.Given as goal

abbrev pub invariant-loop-place : goal.invariant-loop-place
invariant-loop-place l = IsFound l.openings.list l.place l.found
