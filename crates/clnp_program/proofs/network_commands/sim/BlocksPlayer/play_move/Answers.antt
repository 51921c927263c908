use Rattle.clnp_program.proofs.NetworkCommands.Plays.{writes_as}
use Rattle.clnp_program.proofs.network_commands.sim.BlocksPlayer.play_move.Goals as goal

pub returns-clause-comes_to : goal.returns-clause-comes_to
returns-clause-comes_to g c = λ kind model past before u.
    writes_as kind c.args.self.now.telling c.args.scenario.now model past _ c.args.world.now c.write_move.new.world before
    (g.K.Sink.written c.args.sink.now) (g.K.Sink.written c.write_move.new.sink) c.args.self.now.block.items c.write_move.new.block.items c.write_move.result
    u (c.write_move.ensures.comes_to model past before)
