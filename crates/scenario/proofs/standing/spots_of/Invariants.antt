use Rattle.std.proofs.Common.{◌≡◌, ◌++◌, ◌+◌, ◌≤◌, length}
use Rattle.clnp_plan.specs.ScenarioPlan.Standing.{spots_of}
use Rattle.scenario.proofs.standing.spots_of.Given as goal

abbrev pub invariant-loop-left : goal.invariant-loop-left
invariant-loop-left l = record {
  few : l.place + length l.left ≤ 64;
  rest : l.spots.items ++ spots_of l.place l.left ≡ spots_of 0 l.systems;
}

abbrev pub decreases-loop-left : goal.decreases-loop-left
decreases-loop-left l = length l.left
