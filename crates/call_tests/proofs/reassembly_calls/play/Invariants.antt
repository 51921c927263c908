-- No buffer is whole before a step.
use Rattle.system_tables.specs.Reassembly.NoWhole.{HasNoWhole}
use Rattle.call_tests.proofs.reassembly_calls.play.Given as goal

abbrev pub invariant-loop-row : goal.invariant-loop-row
invariant-loop-row g l = HasNoWhole l.table
