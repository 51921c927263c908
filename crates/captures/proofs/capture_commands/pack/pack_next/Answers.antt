use Rattle.std.proofs.Common.{◌+◌}
use Rattle.captures.specs.CaptureCommands.Pack.{packing}
use Rattle.clnp_base.proofs.CommandBase.ByLine.{next_good, next_block, refused_line}
use Rattle.captures.proofs.capture_commands.pack.pack_next.Goals as goal

pub returns-in-Ok-clause-comes_to : goal.returns-in-Ok-clause-comes_to
returns-in-Ok-clause-comes_to g c = λ all left number before m.
    let pushed = c.push_line.ensures number in
    let good = rw c.in-Ok.is at pushed in
    next_block packing 1 (number + 1) all left number before (g.K.Sink.written c.args.sink.now) (g.K.Sink.written c.write_full_block.new.sink)
    c.push_line.new.block.items c.write_full_block.new.block.items c.write_full_block.result
    (next_good packing 1 number (number + 1) all left c.args.line.now before (g.K.Sink.written c.args.sink.now) c.args.block.now.items c.push_line.new.block.items
    good.0 m good.1 good.2)
    c.write_full_block.ensures.written

pub returns-in-Err-clause-comes_to : goal.returns-in-Err-clause-comes_to
returns-in-Err-clause-comes_to g c = λ all left number before m.
    refused_line packing 1 number (λ (done : Unit {0}). number + 1) all left c.args.line.now number before
    (g.K.Sink.written c.args.sink.now) (g.K.Sink.written c.refuse.new.sink) c.args.block.now.items c.push_line.new.block.items c.in-Err.fault c.push_line.result
    c.refuse.result m c.in-Err.is (c.push_line.ensures number) c.refuse.ensures.written
