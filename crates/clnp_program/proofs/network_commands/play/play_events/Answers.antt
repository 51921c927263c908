use Rattle.std.proofs.Common.{◌≡◌, ◌<◌, length, get_or, ap, arith, append-nil, append_assoc}
use Rattle.std.proofs.lemmas.Result.{err_from_is_err_and}
use Rattle.clnp_program.proofs.NetworkCommands.Plays.{stopped_as}
use Rattle.clnp_program.proofs.NetworkCommands.Clocks.{time_for_next}
use Rattle.clnp_program.proofs.NetworkCommands.Runs.{moves_from_more, moves_from_next, world_after-append}
use Rattle.clnp_program.proofs.network_commands.play.play_events.Goals as goal

pub loop-place-init : goal.loop-place-init
loop-place-init g c = (λ model stands. stands, λ kind model past before u. rw append-nil u, omega arith)

pub play_event-requires : goal.play_event-requires
play_event-requires g c =
    let events = c.args.scenario.now.events in
    let count : length c.events-event-items.result.now ≡ length events = ap length c.events-event-items.ensures in
    let within : c.loop-place.place < length events = omega arith in
    let is : c.event-item.result ≡ get_or events c.loop-place.place c.event-item.result = rw c.events-event-items.ensures at c.event-item.is in
    time_for_next c.args.scenario.now c.args.world.now c.loop-place.world _ _ _ _ c.requires
    (moves_from_next events c.loop-place.place c.event-item.result within is) (c.loop-place.invariant.0 c.requires.model c.requires.stands)

pub returns-in_err-play_event-clause-comes_to : goal.returns-in_err-play_event-clause-comes_to
returns-in_err-play_event-clause-comes_to g c = λ kind model past before u.
    let events = c.args.scenario.now.events in
    let count : length c.events-event-items.result.now ≡ length events = ap length c.events-event-items.ensures in
    let within : c.loop-place.place < length events = omega arith in
    let is : c.event-item.result ≡ get_or events c.loop-place.place c.event-item.result = rw c.events-event-items.ensures at c.event-item.is in
    let p = err_from_is_err_and c.from_residual.result c.from_residual.ensures.1 in
    rw (p.1, p.2) (stopped_as kind c.args.scenario.now model past _ _ _ _ _ _ c.in_err-play_event.field-0.0
    (moves_from_next events c.loop-place.place c.event-item.result within is)
    (c.in_err-play_event.ensures.comes_to kind model _ before (c.loop-place.invariant.1 kind model past before u)))

pub loop-place-preserved : goal.loop-place-preserved
loop-place-preserved g c =
    let events = c.args.scenario.now.events in
    let count : length c.events-event-items.result.now ≡ length events = ap length c.events-event-items.ensures in
    let within : c.loop-place.place < length events = omega arith in
    let is : c.event-item.result ≡ get_or events c.loop-place.place c.event-item.result = rw c.events-event-items.ensures at c.event-item.is in (
      λ model stands.
          rw (moves_from_more events c.loop-place.place c.event-item.result within is, world_after-append)
          (c.in_ok-play_event.ensures.stands _ (c.loop-place.invariant.0 model stands)),
      λ kind model past before u.
          rw (moves_from_more events c.loop-place.place c.event-item.result within is, ← append_assoc)
          (c.in_ok-play_event.ensures.comes_to kind model _ before (c.loop-place.invariant.1 kind model past before u)),
      omega (arith, c.loop-place.invariant.2, c.in_ok-play_event.ensures.later),
    )
