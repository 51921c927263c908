use Rattle.std.proofs.Common.{[], refl}
use Rattle.std.proofs.lemmas.Result.{err_from_is_err_and}
use Rattle.clnp_machine.specs.ClnpNetwork.LabelledNetwork.{first_world}
use Rattle.clnp_program.specs.NetworkCommands.Playing.{Writing}
use Rattle.clnp_program.proofs.NetworkCommands.Clocks.{time_at_first}
use Rattle.clnp_program.proofs.NetworkCommands.Playing.{run_ended, run_stopped, set_out}
use Rattle.clnp_program.proofs.network_commands.sim.play_in.Goals as goal

pub play_events-requires : goal.play_events-requires
play_events-requires g c = time_at_first c.args.scenario.now c.args.world.now c.requires.fit c.requires.start

pub returns-in_err-play_events-clause-comes_to :
    goal.returns-in_err-play_events-clause-comes_to
returns-in_err-play_events-clause-comes_to g c =
    let p = err_from_is_err_and c.from_residual.result c.from_residual.ensures.1 in
    rw (p.1, p.2) (run_stopped c.args.telling c.args.scenario.now _ _ c.in_err-play_events.field-0.0
    (c.in_err-play_events.ensures.comes_to (Writing c.args.telling) (first_world c.args.scenario.now) [] (g.K.Sink.written c.args.sink.now)
    (refl, rw c.new-block.ensures.items (set_out c.args.telling c.args.scenario.now (first_world c.args.scenario.now) c.args.world.now (g.K.Sink.written c.args.sink.now) c.requires.start))))

pub returns-clause-comes_to : goal.returns-clause-comes_to
returns-clause-comes_to g c =
    let played = c.in_ok-play_events.ensures.comes_to (Writing c.args.telling) (first_world c.args.scenario.now) [] (g.K.Sink.written c.args.sink.now)
    (refl, rw c.new-block.ensures.items (set_out c.args.telling c.args.scenario.now (first_world c.args.scenario.now) c.args.world.now (g.K.Sink.written c.args.sink.now) c.requires.start)) in
    run_ended c.args.telling c.args.scenario.now _ _ _ _ _ c.write_end.result played.1 (c.write_end.ensures.comes_to _ played.1.stands)
