use Rattle.std.proofs.Common.{◌≡◌, ◌∷◌, [], ◌+◌, ◌≤◌, length, arith, refl}
use Rattle.clnp_base.specs.Text.{lines_of}
use Rattle.clnp_base.specs.CommandBase.ByLine.{Midway}
use Rattle.captures.specs.CaptureCommands.Check.{checking, first_checked, tally_text}
use Rattle.clnp_base.proofs.CommandBase.ByLine.{start, stopped, all_ended}
use Rattle.captures.proofs.CaptureCommands.Totals.{check_total}
use Rattle.captures.proofs.capture_commands.check.check.Goals as goal
use Rattle.clnp_base.proofs.Reading.{lines_of-few}

pub loop-line-init : goal.loop-line-init
loop-line-init g c =
    let lines : length (lines_of c.args.text.now) ≤ length c.args.text.now = lines_of-few c.args.text.now in (
      rw c.new-block.ensures.items (start checking first_checked (lines_of c.args.text.now) (g.K.Sink.written c.args.sink.now)),
      omega arith,
      omega (arith, lines),
      omega arith,
    )

pub returns-in-Err-clause-comes_to : goal.returns-in-Err-clause-comes_to
returns-in-Err-clause-comes_to g c =
    let here : Midway checking first_checked (record { number = c.loop-line.number + 1; tally = c.loop-line.tally }) (lines_of c.args.text.now) (c.in-Some.line.now ∷ lines_of c.in-Some.others.now)
    (g.K.Sink.written c.args.sink.now) (g.K.Sink.written c.loop-line.sink) c.loop-line.block.items =
    rw c.in-Some.ensures.line at c.loop-line.invariant.0 in
    rw c.status.ensures
    (stopped checking first_checked (lines_of c.args.text.now) (c.loop-line.number + 1) (g.K.Sink.written c.args.sink.now)
    (g.K.Sink.written c.check_next.new.sink) c.in-Err.stop (check_total c.every_vector_is_judged.ensures) (λ now. refl)
    (c.in-Err.ensures.comes_to (lines_of c.args.text.now) (lines_of c.in-Some.others.now) (g.K.Sink.written c.args.sink.now) here))

pub returns-clause-comes_to : goal.returns-clause-comes_to
returns-clause-comes_to g c =
    let none : lines_of c.loop-line.left.now ≡ [] = c.in_default.ensures.line in
    all_ended checking first_checked (record { number = c.loop-line.number + 1; tally = c.loop-line.tally }) (lines_of c.args.text.now) (lines_of c.loop-line.left.now)
    (g.K.Sink.written c.args.sink.now) (g.K.Sink.written c.loop-line.sink) (g.K.Sink.written c.write_end.new.sink) c.loop-line.block.items
    (tally_text c.loop-line.tally) c.write_end.result (check_total c.every_vector_is_judged.ensures) (λ now. refl) none refl refl
    c.loop-line.invariant.0 c.write_end.ensures.written
