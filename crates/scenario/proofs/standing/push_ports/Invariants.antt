use Rattle.std.proofs.Common.{◌≡◌, ◌++◌, ◌+◌, ◌≤◌, length}
use Rattle.clnp_plan.specs.ScenarioPlan.Standing.{spots_from}
use Rattle.scenario.proofs.standing.push_ports.Given as goal

abbrev pub invariant-loop-left : goal.invariant-loop-left
invariant-loop-left l = record {
  few : l.number + length l.left ≤ 8;
  rest : l.spots.items ++ spots_from l.system l.number l.left ≡ l.fn.spots.items ++ spots_from l.system 0 l.ports;
}

abbrev pub decreases-loop-left : goal.decreases-loop-left
decreases-loop-left l = length l.left
