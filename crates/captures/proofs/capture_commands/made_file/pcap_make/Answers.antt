use Rattle.clnp_base.specs.Text.{lines_of}
use Rattle.std.proofs.Common.{arith}
use Rattle.captures.proofs.CaptureCommands.Answering.{Rose-later}
use Rattle.captures.proofs.CaptureCommands.Makes.{comes_behind, header_cut, nothing_made}
use Rattle.captures.proofs.capture_commands.made_file.pcap_make.Goals as goal

pub returns-in-Ok-flush-clause-comes_to : goal.returns-in-Ok-flush-clause-comes_to
returns-in-Ok-flush-clause-comes_to g c =
    comes_behind (lines_of c.args.text.now) (g.K.Sink.written c.args.sink.now) (g.K.Sink.written c.flush.new.sink) (g.K.Sink.written c.make_records.new.sink)
    c.make_records.result (rw (c.in-Ok.ensures.written, c.new-block.ensures.items) at c.in-Ok-flush.ensures.done) c.make_records.ensures.comes_to

pub returns-in-Ok-flush-clause-later : goal.returns-in-Ok-flush-clause-later
returns-in-Ok-flush-clause-later g c = omega (arith, c.flush.ensures.later, c.make_records.ensures.later)

pub returns-in-Ok-flush-clause-failed : goal.returns-in-Ok-flush-clause-failed
returns-in-Ok-flush-clause-failed g c = λ is.
    Rose-later (g.K.Sink.faults c.args.sink.now) (g.K.Sink.faults c.flush.new.sink) (g.K.Sink.faults c.make_records.new.sink) c.flush.ensures.later
    (c.make_records.ensures.failed is)

pub returns-in_default-clause-comes_to : goal.returns-in_default-clause-comes_to
returns-in_default-clause-comes_to g c = nothing_made (lines_of c.args.text.now) (g.K.Sink.written c.args.sink.now)

pub returns-clause-comes_to : goal.returns-clause-comes_to
returns-clause-comes_to g c =
    header_cut (lines_of c.args.text.now) (g.K.Sink.written c.args.sink.now) (g.K.Sink.written c.flush.new.sink)
    (rw (c.in-Ok.ensures.written, c.new-block.ensures.items) at c.in-Err.ensures.front)
