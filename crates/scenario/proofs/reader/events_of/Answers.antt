use Rattle.std.proofs.Common.{length, refl, sym, ◌∙◌, ap, arith}
use Rattle.std.proofs.lemmas.Result.{err_from_is_err_and}
use Rattle.clnp_plan.specs.ClnpBase.Text.{lines_of}
use Rattle.scenario.specs.Events.{Scene, counted, first_scene, scene_of, nothing_counted}
use Rattle.scenario.specs.Grammar.{event_for, events_from}
use Rattle.clnp_plan.specs.ScenarioPlan.Plan.{ticks_of}
use Rattle.scenario.proofs.Readings.{nothing_before}
use Rattle.scenario.proofs.Clocks.{first_slow, room, slower, ticks_few}
use Rattle.scenario.proofs.Events.{skips, goes_on, stops, ends, stops_after, lacks_end}
use Rattle.scenario.proofs.reader.events_of.Goals as goal

pub loop-line-init : goal.loop-line-init
loop-line-init c =
    let first : Scene = first_scene c.args.version c.args.skew c.args.subnets.now c.args.systems.now in
    record {
      few = c.requires.few;
      counted = rw c.nothing-counts.ensures refl;
      slow = rw (c.nothing-counts.ensures, c.in_ok-standing.ensures) (first_slow c.args.systems.now);
      same = rw (c.new-events.ensures.items, c.nothing-counts.ensures, c.in_ok-standing.ensures)
          (nothing_before (events_from (event_for c.args.links) first c.args.number nothing_counted (lines_of c.args.text.now)));
    }

pub go_on-requires : goal.go_on-requires
go_on-requires c =
    room c.loop-line.counts.ticks (ticks_of c.in_ok-event.event) c.loop-line.standing.clocks c.loop-line.invariant.slow
    (ticks_few (counted c.loop-line.counts c.in_ok-event.event) c.in_ok-event.ensures.few)

pub loop-line-preserved-then-is_skipped : goal.loop-line-preserved-then-is_skipped
loop-line-preserved-then-is_skipped c =
    let scene : Scene = scene_of c.args.version c.args.subnets.now c.args.systems.now c.loop-line.standing in
    let first : Scene = first_scene c.args.version c.args.skew c.args.subnets.now c.args.systems.now in
    record {
      few = omega (arith, ap length c.in-Some.ensures.line);
      counted = c.loop-line.invariant.counted;
      slow = c.loop-line.invariant.slow;
      same = skips (event_for c.args.links) c.loop-line.events.items scene c.loop-line.number c.loop-line.counts c.in-Some.line.now (lines_of c.in-Some.rest.now)
          (events_from (event_for c.args.links) first c.args.number nothing_counted (lines_of c.args.text.now)) (sym c.is_skipped.ensures ∙ c.if-is_skipped.true)
          (rw c.in-Some.ensures.line at c.loop-line.invariant.same);
    }

pub returns-in_err-nothing_after : goal.returns-in_err-nothing_after
returns-in_err-nothing_after c =
    let scene : Scene = scene_of c.args.version c.args.subnets.now c.args.systems.now c.loop-line.standing in
    let first : Scene = first_scene c.args.version c.args.skew c.args.subnets.now c.args.systems.now in
    let p = err_from_is_err_and c.from_residual-in_err-nothing_after.result c.from_residual-in_err-nothing_after.ensures.1 in
    rw (p.1, p.2)
    (stops_after (event_for c.args.links) c.in_err-nothing_after.field-0.0 c.loop-line.events.items scene c.loop-line.number c.loop-line.counts c.in-Some.line.now (lines_of c.in-Some.rest.now)
    (events_from (event_for c.args.links) first c.args.number nothing_counted (lines_of c.args.text.now)) (sym c.is_skipped.ensures ∙ c.if-is_skipped.false) (sym c.is_line_of.ensures ∙ c.if-is_line_of.true) c.in_err-nothing_after.ensures
    (rw c.in-Some.ensures.line at c.loop-line.invariant.same))

pub returns-then-is_line_of : goal.returns-then-is_line_of
returns-then-is_line_of c =
    let scene : Scene = scene_of c.args.version c.args.subnets.now c.args.systems.now c.loop-line.standing in
    let first : Scene = first_scene c.args.version c.args.skew c.args.subnets.now c.args.systems.now in
    ends (event_for c.args.links) c.loop-line.events.items scene c.loop-line.number c.loop-line.counts c.in-Some.line.now (lines_of c.in-Some.rest.now)
    (events_from (event_for c.args.links) first c.args.number nothing_counted (lines_of c.args.text.now)) (sym c.is_skipped.ensures ∙ c.if-is_skipped.false) (sym c.is_line_of.ensures ∙ c.if-is_line_of.true) c.in_ok-nothing_after.ensures
    (rw c.in-Some.ensures.line at c.loop-line.invariant.same)

pub returns-in_err-event : goal.returns-in_err-event
returns-in_err-event c =
    let scene : Scene = scene_of c.args.version c.args.subnets.now c.args.systems.now c.loop-line.standing in
    let first : Scene = first_scene c.args.version c.args.skew c.args.subnets.now c.args.systems.now in
    let p = err_from_is_err_and c.from_residual-in_err-event.result c.from_residual-in_err-event.ensures.1 in
    rw (p.1, p.2)
    (stops (event_for c.args.links) c.in_err-event.field-0.0 c.loop-line.events.items scene c.loop-line.number c.loop-line.counts c.in-Some.line.now (lines_of c.in-Some.rest.now)
    (events_from (event_for c.args.links) first c.args.number nothing_counted (lines_of c.args.text.now)) (sym c.is_skipped.ensures ∙ c.if-is_skipped.false) (sym c.is_line_of.ensures ∙ c.if-is_line_of.false) c.in_err-event.ensures.event
    (rw c.in-Some.ensures.line at c.loop-line.invariant.same))

pub loop-line-preserved : goal.loop-line-preserved
loop-line-preserved c =
    let scene : Scene = scene_of c.args.version c.args.subnets.now c.args.systems.now c.loop-line.standing in
    let first : Scene = first_scene c.args.version c.args.skew c.args.subnets.now c.args.systems.now in
    record {
      few = omega (arith, ap length c.in-Some.ensures.line);
      counted = rw c.with-counts.ensures c.in_ok-event.ensures.few;
      slow = rw (c.with-counts.ensures, c.in_ok-go_on.ensures) (slower c.loop-line.counts.ticks c.in_ok-event.event c.loop-line.standing.clocks c.loop-line.invariant.slow);
      same = rw (c.in_ok-push.ensures.items, c.with-counts.ensures, c.in_ok-go_on.ensures)
          (goes_on (event_for c.args.links) c.loop-line.events.items scene c.loop-line.number c.loop-line.counts c.in-Some.line.now (lines_of c.in-Some.rest.now) c.in_ok-event.event
          (events_from (event_for c.args.links) first c.args.number nothing_counted (lines_of c.args.text.now)) (sym c.is_skipped.ensures ∙ c.if-is_skipped.false) (sym c.is_line_of.ensures ∙ c.if-is_line_of.false) c.in_ok-event.ensures.event
          (rw c.in-Some.ensures.line at c.loop-line.invariant.same));
    }

pub returns : goal.returns
returns c =
    let scene : Scene = scene_of c.args.version c.args.subnets.now c.args.systems.now c.loop-line.standing in
    let first : Scene = first_scene c.args.version c.args.skew c.args.subnets.now c.args.systems.now in
    rw c.bad_line.ensures
    (lacks_end (event_for c.args.links) c.loop-line.events.items scene c.loop-line.number c.loop-line.counts
    (events_from (event_for c.args.links) first c.args.number nothing_counted (lines_of c.args.text.now)) (rw c.in_default.ensures.line at c.loop-line.invariant.same))
