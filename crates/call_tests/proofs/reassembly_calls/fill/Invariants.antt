-- No buffer is whole before a segment is offered.
use Rattle.system_tables.specs.Reassembly.NoWhole.{HasNoWhole}
use Rattle.call_tests.proofs.reassembly_calls.fill.Given as goal

abbrev pub invariant-loop-id : goal.invariant-loop-id
invariant-loop-id g l = HasNoWhole l.table
