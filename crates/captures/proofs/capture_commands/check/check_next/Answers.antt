use Rattle.std.proofs.Common.{◌+◌}
use Rattle.captures.specs.declared.capture_commands.check.Tally.{Tally}
use Rattle.captures.specs.CaptureCommands.Check.{checking, first_checked, Checked}
use Rattle.clnp_base.proofs.CommandBase.ByLine.{next_good, next_written, next_failed, refused_line}
use Rattle.captures.proofs.capture_commands.check.check_next.Goals as goal

pub returns-in-Ok-write_full_block-clause-comes_to : goal.returns-in-Ok-write_full_block-clause-comes_to
returns-in-Ok-write_full_block-clause-comes_to g c = λ all left before m.
    let pushed = c.in-Ok.ensures.pushed in
    let now : Checked = record { number = c.args.number; tally = c.args.tally } in
    let next : Checked = record { number = c.args.number + 1; tally = c.in-Ok.counts } in
    next_written checking first_checked next all left before (g.K.Sink.written c.args.sink.now) (g.K.Sink.written c.write_full_block.new.sink)
    c.push_line.new.block.items c.write_full_block.new.block.items
    (next_good checking first_checked now next all left c.args.line.now before (g.K.Sink.written c.args.sink.now) c.args.block.now.items c.push_line.new.block.items
    pushed.0 m pushed.1 pushed.2)
    c.in-Ok-write_full_block.ensures.written

pub returns-in-Err-write_full_block-clause-comes_to : goal.returns-in-Err-write_full_block-clause-comes_to
returns-in-Err-write_full_block-clause-comes_to g c = λ all left before m.
    let pushed = c.in-Ok.ensures.pushed in
    let now : Checked = record { number = c.args.number; tally = c.args.tally } in
    let next : Checked = record { number = c.args.number + 1; tally = c.in-Ok.counts } in
    next_failed (Unit {0}) checking first_checked next all left c.args.number before (g.K.Sink.written c.args.sink.now) (g.K.Sink.written c.write_full_block.new.sink)
    c.push_line.new.block.items c.write_full_block.new.block.items c.in-Err-write_full_block.stop
    (next_good checking first_checked now next all left c.args.line.now before (g.K.Sink.written c.args.sink.now) c.args.block.now.items c.push_line.new.block.items
    pushed.0 m pushed.1 pushed.2)
    c.in-Err-write_full_block.ensures.written

pub returns-in-Err-clause-comes_to : goal.returns-in-Err-clause-comes_to
returns-in-Err-clause-comes_to g c = λ all left before m.
    let now : Checked = record { number = c.args.number; tally = c.args.tally } in
    refused_line checking first_checked now (λ (counts : Tally). record { number = c.args.number + 1; tally = counts }) all left c.args.line.now c.args.number before
    (g.K.Sink.written c.args.sink.now) (g.K.Sink.written c.refuse.new.sink) c.args.block.now.items c.push_line.new.block.items c.in-Err.fault c.push_line.result
    c.refuse.result m c.in-Err.is c.push_line.ensures.pushed c.refuse.ensures.written
