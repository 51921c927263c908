use Rattle.std.proofs.Common.{[], ◌∷◌}
use Rattle.clnp_machine.specs.ClnpBase.declared.streams.Failed.{Failed}
use Rattle.clnp_program.proofs.NetworkCommands.Playing.{block_written, cut_short, full_before, made_one, refused_memory}
use Rattle.clnp_program.proofs.network_commands.sim.write_move.Goals as goal

pub returns-in-Ok-flush_full-clause-comes_to : goal.returns-in-Ok-flush_full-clause-comes_to
returns-in-Ok-flush_full-clause-comes_to g c = λ model past before u.
    let made = made_one c.args.telling c.args.scenario.now model past c.args.world.now before (g.K.Sink.written c.args.sink.now) c.args.block.now.items
    c.args.mv.now c.step.new.self c.step.new.out.items u
    (c.in-Ok.ensures.full _ u.stands) (c.in-Ok.ensures.stands _ u.stands) (c.in-Ok.ensures.lines _ u.stands) in
    block_written c.args.telling c.args.scenario.now model _ c.step.new.self before (g.K.Sink.written c.args.sink.now) c.step.new.out.items
    Failed (g.K.Sink.written c.flush_full.new.sink) c.flush_full.new.block.items tt made c.in-Ok-flush_full.ensures.written

pub returns-in-Err-clause-comes_to : goal.returns-in-Err-clause-comes_to
returns-in-Err-clause-comes_to g c = λ model past before u.
    let made = made_one c.args.telling c.args.scenario.now model past c.args.world.now before (g.K.Sink.written c.args.sink.now) c.args.block.now.items
    c.args.mv.now c.step.new.self c.step.new.out.items u
    (c.in-Ok.ensures.full _ u.stands) (c.in-Ok.ensures.stands _ u.stands) (c.in-Ok.ensures.lines _ u.stands) in
    cut_short c.args.telling c.args.scenario.now model _ c.step.new.self before (g.K.Sink.written c.args.sink.now) c.step.new.out.items
    (g.K.Sink.written c.flush_full.new.sink) made c.in-Err.ensures.written

pub returns-in-Err-WorldFull-clause-comes_to : goal.returns-in-Err-WorldFull-clause-comes_to
returns-in-Err-WorldFull-clause-comes_to g c = λ model past before u.
    let full = rw c.in-Err-WorldFull.field-0-is at (c.in-Err-WorldFull.ensures.full _ u.stands) in
    full_before c.args.telling c.args.scenario.now model past c.args.world.now before (g.K.Sink.written c.args.sink.now) c.args.block.now.items
    c.args.mv.now c.in-Err-WorldFull.octets (g.K.Sink.written c.stop_full.new.sink) c.stop_full.result u full.0 full.1
    (rw c.in-Err-WorldFull.ensures.same at c.stop_full.ensures.written)

pub returns-in-Err-NoMemory-clause-comes_to : goal.returns-in-Err-NoMemory-clause-comes_to
returns-in-Err-NoMemory-clause-comes_to g c = λ model past before u.
    refused_memory c.args.telling c.args.scenario.now model past c.args.world.now before (g.K.Sink.written c.args.sink.now) c.args.block.now.items
    (c.args.mv.now ∷ []) u
