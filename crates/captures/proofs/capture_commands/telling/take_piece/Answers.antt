use Rattle.std.proofs.Common.{◌≡◌, ◌<◌, ◌++◌, length, take, arith, length-take-le}
use Rattle.std.proofs.lemmas.Bool.Decides.{nat_tests}
use Rattle.captures.proofs.CaptureCommands.Answering.{limited_piece, piece_beyond, piece_goes_on, piece_none, stopped}
use Rattle.captures.proofs.capture_commands.telling.take_piece.Goals as goal

pub returns-then-is_empty-clause-comes_to : goal.returns-then-is_empty-clause-comes_to
returns-then-is_empty-clause-comes_to g c = λ taken left_before left_after before w consumed at_end.
    let none : length c.args.piece.now ≡ 0 = grind (arith, nat_tests) in
    piece_none c.args.teller.now left_before left_after before (g.K.Sink.written c.args.sink.now) taken c.args.piece.now c.end.result w consumed
    at_end none c.requires.size c.end.ensures.ends

pub returns-in-Err-clause-comes_to : goal.returns-in-Err-clause-comes_to
returns-in-Err-clause-comes_to g c = λ taken left_before left_after before w consumed at_end.
    stopped c.every_frame_is_shown.ensures c.args.teller.now.form left_before left_after before (g.K.Sink.written c.take.new.sink)
    (taken ++ c.args.piece.now) (taken ++ take c.min-within.result c.args.piece.now) c.in-Err.answer consumed
    (limited_piece taken c.args.piece.now c.args.teller.now.size c.min-within.result w.sized c.requires.few c.requires.size c.min-within.ensures)
    (c.in-Err.ensures.tells taken before w)

pub returns-else-piece-room-clause-comes_to : goal.returns-else-piece-room-clause-comes_to
returns-else-piece-room-clause-comes_to g c = λ taken left_before left_after before w consumed at_end.
    piece_beyond c.take.new.self c.args.teller.now.form left_before left_after before (g.K.Sink.written c.take.new.sink) taken c.args.piece.now
    c.args.teller.now.size c.min-within.result (c.in-Ok.ensures.tells taken before w) consumed w.sized c.requires.few c.requires.size
    c.min-within.ensures c.if-piece-room.false c.in-Ok.ensures.form

pub returns-then-piece-room-clause-comes_to : goal.returns-then-piece-room-clause-comes_to
returns-then-piece-room-clause-comes_to g c = λ taken left_before left_after before w consumed at_end.
    piece_goes_on c.take.new.self left_before left_after before (g.K.Sink.written c.take.new.sink) taken c.args.piece.now c.args.teller.now.size
    c.min-within.result (c.in-Ok.ensures.tells taken before w) consumed c.if-piece-room.true c.min-within.ensures

pub returns-then-piece-room-clause-size : goal.returns-then-piece-room-clause-size
returns-then-piece-room-clause-size g c =
    let some : 0 < length c.args.piece.now = grind (arith, nat_tests) in
    let within = length-take-le c.min-within.result c.args.piece.now (omega (arith, c.min-within.ensures)) in (
      omega (arith, c.in-Ok.ensures.size, within, some, c.min-within.ensures, c.if-piece-room.true),
      omega (arith, c.in-Ok.ensures.size, within, c.min-within.ensures, c.requires.size),
    )
