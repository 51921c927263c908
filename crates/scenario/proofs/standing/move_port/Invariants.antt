-- The ports so far are at their places.
use Rattle.std.proofs.Common.{◌≡◌, ◌++◌, map, take, drop}
use Rattle.clnp_plan.specs.ScenarioPlan.Standing.{moved}
use Rattle.scenario.proofs.standing.move_port.Given as goal

abbrev pub invariant-loop-spot : goal.invariant-loop-spot
invariant-loop-spot l =
    l.spots ≡ map (moved l.system l.number l.subnet l.snpa) (take l.spot-index l.initial.spots) ++ drop l.spot-index l.initial.spots
