use Rattle.std.proofs.Common.{◌≤◌, length, take, arith}
use Rattle.std.proofs.KnownBytes.{Consumes-kept, Consumes-trans}
use Rattle.captures.specs.CaptureCommands.Called.{most_octets}
use Rattle.captures.proofs.CaptureCommands.Answering.{read_failed}
use Rattle.captures.proofs.capture_commands.telling.take_next.Goals as goal

pub returns-in-Ok-clause-comes_to : goal.returns-in-Ok-clause-comes_to
returns-in-Ok-clause-comes_to g c = λ left before h.
    c.take_piece.ensures.comes_to h.taken left (g.S.Source.left c.read.new.self) before h.told
    (Consumes-trans left (g.S.Source.left c.args.source.now) (g.S.Source.left c.read.new.self) h.taken (take c.in-Ok.came c.read.new.buf) h.consumed
    c.in-Ok.ensures.octets.0)
    (λ none. c.in-Ok.ensures.octets.1 (omega (arith, c.in-Ok.ensures.bound.1, none)) (omega (arith, c.requires.some, c.read.auto.buf)))

pub returns-in-Err-clause-comes_to : goal.returns-in-Err-clause-comes_to
returns-in-Err-clause-comes_to g c = λ left before h.
    let w = h.told in
    let sized = w.sized in
    let few : length h.taken ≤ most_octets = omega (arith, sized, c.requires.size) in
    read_failed c.args.teller.now left (g.S.Source.left c.read.new.self) before (g.K.Sink.written c.args.sink.now) h.taken h.told
    (Consumes-kept left (g.S.Source.left c.args.source.now) (g.S.Source.left c.read.new.self) h.taken h.consumed c.in-Err.ensures.octets) few

pub returns-in-Ok-clause-later : goal.returns-in-Ok-clause-later
returns-in-Ok-clause-later g c = (c.read.ensures.later, c.take_piece.ensures.later)

pub returns-in-Ok-clause-size : goal.returns-in-Ok-clause-size
returns-in-Ok-clause-size g c = c.take_piece.ensures.size

pub returns-in-Ok-clause-counted : goal.returns-in-Ok-clause-counted
returns-in-Ok-clause-counted g c = c.take_piece.ensures.counted

pub returns-in-Ok-clause-form : goal.returns-in-Ok-clause-form
returns-in-Ok-clause-form g c = c.take_piece.ensures.form

pub returns-in-Ok-clause-none_waits : goal.returns-in-Ok-clause-none_waits
returns-in-Ok-clause-none_waits g c = c.take_piece.ensures.none_waits

pub returns-in-Ok-clause-write_fault : goal.returns-in-Ok-clause-write_fault
returns-in-Ok-clause-write_fault g c = c.take_piece.ensures.write_fault

pub returns-in-Ok-clause-read_fault : goal.returns-in-Ok-clause-read_fault
returns-in-Ok-clause-read_fault g c = λ h. absurd (c.take_piece.ensures.read_fault h)
