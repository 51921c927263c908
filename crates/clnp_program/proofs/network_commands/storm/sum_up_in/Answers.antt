use Rattle.std.proofs.Common.{[], ap, refl}
use Rattle.std.proofs.lemmas.Result.{err_from_is_err_and}
use Rattle.std.specs.Prelude.{length}
use Rattle.clnp_machine.specs.ClnpNetwork.LabelledNetwork.{first_world}
use Rattle.clnp_program.specs.NetworkCommands.Playing.{Counting}
use Rattle.clnp_program.proofs.NetworkCommands.Clocks.{time_at_first}
use Rattle.clnp_program.proofs.NetworkCommands.Storms.{count_none, summary_is}
use Rattle.clnp_program.proofs.network_commands.storm.sum_up_in.Goals as goal

pub play_events-requires : goal.play_events-requires
play_events-requires g c = time_at_first c.args.scenario.now c.args.world.now c.requires.fit c.requires.start

pub returns-in_err-play_events-clause-sums : goal.returns-in_err-play_events-clause-sums
returns-in_err-play_events-clause-sums g c =
    let p = err_from_is_err_and c.from_residual.result c.from_residual.ensures.1 in
    let plan = c.args.scenario.now in
    rw (p.1, p.2) (c.in_err-play_events.ensures.comes_to Counting (first_world plan) [] (g.K.Sink.written c.args.sink.now)
    (refl, count_none plan c.args.world.now c.none-counts.result c.requires.start c.none-counts.ensures)).1

pub returns-in_err-play_events-clause-same : goal.returns-in_err-play_events-clause-same
returns-in_err-play_events-clause-same g c =
    let plan = c.args.scenario.now in
    (c.in_err-play_events.ensures.comes_to Counting (first_world plan) [] (g.K.Sink.written c.args.sink.now)
    (refl, count_none plan c.args.world.now c.none-counts.result c.requires.start c.none-counts.ensures)).0

pub returns-clause-sums : goal.returns-clause-sums
returns-clause-sums g c =
    let plan = c.args.scenario.now in
    let counted = (c.in_ok-play_events.ensures.comes_to Counting (first_world plan) [] (g.K.Sink.written c.args.sink.now)
    (refl, count_none plan c.args.world.now c.none-counts.result c.requires.start c.none-counts.ensures)).1 in
    summary_is c.args.seed (length c.events.result.now) c.copies.result c.clock.result plan c.play_events.new.world c.play_events.new.player
    c.requires.fit counted (ap length c.events.ensures) (c.copies.ensures _ counted.stands) (c.clock.ensures.stands _ counted.stands)

pub returns-clause-same : goal.returns-clause-same
returns-clause-same g c =
    let plan = c.args.scenario.now in
    (c.in_ok-play_events.ensures.comes_to Counting (first_world plan) [] (g.K.Sink.written c.args.sink.now)
    (refl, count_none plan c.args.world.now c.none-counts.result c.requires.start c.none-counts.ensures)).0
