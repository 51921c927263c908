use Rattle.std.proofs.Common.{◌++◌, ◌∷◌, []}
use Rattle.scenario.specs.ClnpBase.declared.streams.Failed.{Failed}
use Rattle.clnp_program.proofs.FairCommands.Writing.{block_written, cut_short, one_more}
use Rattle.clnp_program.proofs.fair_commands.joining.take_in_next.Goals as goal

pub returns-in-Ok-flush_full-clause-comes_to : goal.returns-in-Ok-flush_full-clause-comes_to
returns-in-Ok-flush_full-clause-comes_to g c = λ s frames before u.
    let more = one_more c.what_is_told_goes_on.ensures s frames c.args.came.now c.args.tables.now c.push_frame.new.tables before (g.K.Sink.written c.args.sink.now)
    c.args.block.now.items c.push_frame.new.out.items u (c.in-Ok.ensures s frames u.behind) in
    block_written s (frames ++ c.args.came.now ∷ []) c.push_frame.new.tables before (g.K.Sink.written c.args.sink.now) (g.K.Sink.written c.flush_full.new.sink)
    c.push_frame.new.out.items more Failed c.flush_full.new.block.items tt c.in-Ok-flush_full.ensures.written

pub returns-in-Err-flush_full-clause-comes_to : goal.returns-in-Err-flush_full-clause-comes_to
returns-in-Err-flush_full-clause-comes_to g c = λ s frames before u.
    let more = one_more c.what_is_told_goes_on.ensures s frames c.args.came.now c.args.tables.now c.push_frame.new.tables before (g.K.Sink.written c.args.sink.now)
    c.args.block.now.items c.push_frame.new.out.items u (c.in-Ok.ensures s frames u.behind) in
    cut_short s (frames ++ c.args.came.now ∷ []) c.push_frame.new.tables before (g.K.Sink.written c.args.sink.now) (g.K.Sink.written c.flush_full.new.sink)
    c.push_frame.new.out.items more c.in-Err-flush_full.ensures.written
