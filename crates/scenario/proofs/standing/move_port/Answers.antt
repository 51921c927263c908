-- One port more is at its place.
use Rattle.std.proofs.Common.{◌<◌, length, arith}
use Rattle.std.proofs.lemmas.List.Edits.{map_over_more}
use Rattle.std.proofs.lemmas.List.{get_or_default}
use Rattle.clnp_plan.specs.ScenarioPlan.Standing.{moved}
use Rattle.scenario.proofs.standing.move_port.Goals as goal

pub loop-spot-preserved : goal.loop-spot-preserved
loop-spot-preserved c =
    let within : c.loop-spot.spot-index < length c.args.spots.now = c.loop-spot-test.true in
    rw c.moved.ensures (map_over_more (moved c.args.system c.args.number c.args.subnet c.args.snpa) c.args.spots.now c.loop-spot.spots c.loop-spot.spot-index _ within c.loop-spot.invariant
    (get_or_default c.loop-spot.spots c.loop-spot.spot-index _ _ (omega (arith, c.loop-spot.auto.spots))))
