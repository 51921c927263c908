use Rattle.std.proofs.Common.{◌++◌}
use Rattle.captures.proofs.CaptureCommands.Steps.{told_all, wait_no_more}
use Rattle.captures.proofs.capture_commands.teller.Teller.take.Goals as goal

pub returns-in-Ok-clause-tells : goal.returns-in-Ok-clause-tells
returns-in-Ok-clause-tells g c = λ taken before w.
    wait_no_more c.take_all.new.self c.write_waiting.new.self c.args.self.now.form (taken ++ c.args.piece.now) before (g.K.Sink.written c.take_all.new.sink)
    (g.K.Sink.written c.write_waiting.new.sink) c.write_waiting.result
    (c.in-Ok.ensures.takes taken before (told_all c.args.self.now taken before (g.K.Sink.written c.args.sink.now) w)) c.in-Ok.ensures.form
    c.write_waiting.ensures.same c.write_waiting.ensures.none_waits c.write_waiting.ensures.done c.write_waiting.ensures.front
    c.write_waiting.ensures.refused

pub returns-in-Err-clause-tells : goal.returns-in-Err-clause-tells
returns-in-Err-clause-tells g c = λ taken before w.
    c.in-Err.ensures.takes taken before (told_all c.args.self.now taken before (g.K.Sink.written c.args.sink.now) w)
