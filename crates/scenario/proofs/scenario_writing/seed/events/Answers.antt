use Rattle.std.proofs.Common.{refl, arith}
use Rattle.scenario.proofs.ScenarioWriting.Seeded.{goes_on, all_done, and_then}
use Rattle.scenario.proofs.scenario_writing.seed.events.Goals as goal

pub loop-init : goal.loop-init
loop-init c = rw (c.in_ok-push-2.ensures.items, c.in_ok-push.ensures.items, c.in_ok-events.ensures.items) refl

pub loop-preserved : goal.loop-preserved
loop-preserved c =
    rw (c.in_ok-push_round.ensures.state, c.in_ok-push_round.ensures.events)
    (goes_on c.loop.counter c.loop.state c.loop.events.items _ (omega (arith, c.loop-test.true)) c.loop.invariant)

pub returns : goal.returns
returns c =
    rw (c.in_ok-push-5.ensures.items, c.in_ok-push-4.ensures.items, c.in_ok-push-3.ensures.items)
    (and_then c.args.seed c.loop.events.items
    (all_done c.loop.counter c.loop.state c.loop.events.items _ (omega (arith, c.loop-test.false, c.loop.auto.counter-end)) c.loop.invariant))
