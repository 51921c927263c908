use Rattle.std.proofs.Common.{◌≡◌, ◌++◌, ◌+◌, ◌≤◌, length}
use Rattle.scenario.specs.ScenarioWriting.Canonical.{port_texts}
use Rattle.scenario.proofs.scenario_writing.writer.push_ports.Given as goal

abbrev pub invariant-loop-left : goal.invariant-loop-left
invariant-loop-left l = record {
  few : l.number + length l.left ≤ 8;
  rest : l.out.items ++ port_texts l.subnets l.name l.number l.left ≡ l.fn.out.items ++ port_texts l.subnets l.name 0 l.ports;
}

abbrev pub decreases-loop-left : goal.decreases-loop-left
decreases-loop-left l = length l.left
