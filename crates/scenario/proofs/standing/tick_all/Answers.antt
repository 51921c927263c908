-- One clock more went on.
use Rattle.std.proofs.Common.{◌+◌, ◌<◌, length, arith}
use Rattle.std.proofs.lemmas.List.Edits.{map_over_more}
use Rattle.std.proofs.lemmas.List.{get_or_default}
use Rattle.scenario.proofs.standing.tick_all.Goals as goal

pub loop-clock-preserved : goal.loop-clock-preserved
loop-clock-preserved c =
    let within : c.loop-clock.clock-index < length c.args.clocks.now = c.loop-clock-test.true in
    map_over_more (λ clock. clock + c.args.count) c.args.clocks.now c.loop-clock.clocks c.loop-clock.clock-index _ within c.loop-clock.invariant
    (get_or_default c.loop-clock.clocks c.loop-clock.clock-index _ _ (omega (arith, c.loop-clock.auto.clocks)))
