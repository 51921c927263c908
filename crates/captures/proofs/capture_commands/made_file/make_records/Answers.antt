use Rattle.std.proofs.Common.{◌≡◌, ◌∷◌, [], ◌+◌, ◌≤◌, ◌∙◌, ℕ, Result, Err, length, ap, arith, refl, sym}
use Rattle.clnp_base.specs.Text.{lines_of}
use Rattle.clnp_base.specs.CommandBase.ByLine.{Midway, stop_status}
use Rattle.clnp_base.specs.declared.command_base.block.LineStop.{LineStop}
use Rattle.clnp_base.specs.declared.command_base.block.LineStop.TheVariants as line_stop
use Rattle.clnp_base.specs.declared.command_base.status.Status.TheVariants as status
use Rattle.clnp_base.proofs.CommandBase.ByLine.{start, stopped, all_done, all_cut}
use Rattle.clnp_base.proofs.Reading.{lines_of-few}
use Rattle.captures.specs.CaptureCommands.Make.{making}
use Rattle.captures.proofs.CaptureCommands.Answering.{Rose-later}
use Rattle.captures.proofs.CaptureCommands.Makes.{make_breaks, make_total}
use Rattle.captures.proofs.capture_commands.made_file.make_records.Goals as goal

pub loop-line-init : goal.loop-line-init
loop-line-init g c =
    let lines : length (lines_of c.args.text.now) ≤ length c.args.text.now = lines_of-few c.args.text.now in
    let empty : c.args.block.now.items ≡ [] = c.requires.empty in (
      rw empty (start making 1 (lines_of c.args.text.now) (g.K.Sink.written c.args.sink.now)),
      omega arith,
      omega (arith, lines),
    )

pub returns-in-Err-clause-comes_to : goal.returns-in-Err-clause-comes_to
returns-in-Err-clause-comes_to g c =
    let here : Midway making 1 (c.loop-line.number + 1) (lines_of c.args.text.now) (c.in-Some.line.now ∷ lines_of c.in-Some.others.now)
    (g.K.Sink.written c.args.sink.now) (g.K.Sink.written c.loop-line.sink) c.loop-line.block.items =
    rw c.in-Some.ensures.line at c.loop-line.invariant.0 in
    rw c.status.ensures
    (stopped making 1 (lines_of c.args.text.now) (c.loop-line.number + 1) (g.K.Sink.written c.args.sink.now)
    (g.K.Sink.written c.make_next.new.sink) c.in-Err.stop make_total make_breaks
    (c.in-Err.ensures.comes_to (lines_of c.args.text.now) (lines_of c.in-Some.others.now) (c.loop-line.number + 1) (g.K.Sink.written c.args.sink.now) here))

pub returns-in-Ok-write_block-clause-comes_to : goal.returns-in-Ok-write_block-clause-comes_to
returns-in-Ok-write_block-clause-comes_to g c =
    let none : lines_of c.loop-line.left.now ≡ [] = c.in_default.ensures.line in
    all_done making 1 (c.loop-line.number + 1) (lines_of c.args.text.now) (lines_of c.loop-line.left.now) (g.K.Sink.written c.args.sink.now)
    (g.K.Sink.written c.loop-line.sink) (g.K.Sink.written c.write_block.new.sink) c.loop-line.block.items none refl refl
    c.loop-line.invariant.0 c.in-Ok-write_block.ensures.done

pub returns-clause-comes_to : goal.returns-clause-comes_to
returns-clause-comes_to g c =
    let none : lines_of c.loop-line.left.now ≡ [] = c.in_default.ensures.line in
    all_cut making 1 (c.loop-line.number + 1) (lines_of c.args.text.now) (lines_of c.loop-line.left.now) (g.K.Sink.written c.args.sink.now)
    (g.K.Sink.written c.loop-line.sink) (g.K.Sink.written c.write_block.new.sink) c.loop-line.block.items none refl
    c.loop-line.invariant.0 c.in-Err-write_block.ensures.front

pub loop-line-preserved : goal.loop-line-preserved
loop-line-preserved g c =
    let here : Midway making 1 (c.loop-line.number + 1) (lines_of c.args.text.now) (c.in-Some.line.now ∷ lines_of c.in-Some.others.now)
    (g.K.Sink.written c.args.sink.now) (g.K.Sink.written c.loop-line.sink) c.loop-line.block.items =
    rw c.in-Some.ensures.line at c.loop-line.invariant.0 in (
      c.in-Ok.ensures.comes_to (lines_of c.args.text.now) (lines_of c.in-Some.others.now) (c.loop-line.number + 1) (g.K.Sink.written c.args.sink.now) here,
      omega (arith, c.loop-line.invariant.1, c.make_next.ensures.later),
      omega (arith, c.loop-line.invariant.2, ap length c.in-Some.ensures.line),
    )

pub returns-in-Err-clause-later : goal.returns-in-Err-clause-later
returns-in-Err-clause-later g c = omega (arith, c.loop-line.invariant.1, c.make_next.ensures.later)

-- the answer is a fault of the sink where a line stopped at one
by_fault : {A : Type 0} (R : Type 0) (number : ℕ) (r : Result A LineStop) (stop : LineStop) → r ≡ Err stop
    → (r ≡ Err line_stop.WriteFault → R) → stop_status number stop ≡ status.WriteFault → R
by_fault R number r line_stop.WriteFault is told h = told is
by_fault R number r (line_stop.BadLine code) is told h = absurd (cc)
by_fault R number r line_stop.NoMemory is told h = absurd (cc)

pub returns-in-Err-clause-failed : goal.returns-in-Err-clause-failed
returns-in-Err-clause-failed g c = λ is.
    Rose-later (g.K.Sink.faults c.args.sink.now) (g.K.Sink.faults c.loop-line.sink) (g.K.Sink.faults c.make_next.new.sink) c.loop-line.invariant.1
    (by_fault _ (c.loop-line.number + 1) c.make_next.result c.in-Err.stop c.in-Err.is c.make_next.ensures.failed (sym c.status.ensures ∙ is))

pub returns-in-Ok-write_block-clause-later : goal.returns-in-Ok-write_block-clause-later
returns-in-Ok-write_block-clause-later g c = omega (arith, c.loop-line.invariant.1, c.write_block.ensures.later)

all_written : {R : Type 0} → status.Done ≡ status.WriteFault → R
all_written h = absurd (cc)

pub returns-in-Ok-write_block-clause-failed : goal.returns-in-Ok-write_block-clause-failed
returns-in-Ok-write_block-clause-failed g c = all_written

pub returns-clause-later : goal.returns-clause-later
returns-clause-later g c = omega (arith, c.loop-line.invariant.1, c.write_block.ensures.later)

pub returns-clause-failed : goal.returns-clause-failed
returns-clause-failed g c = λ is.
    Rose-later (g.K.Sink.faults c.args.sink.now) (g.K.Sink.faults c.loop-line.sink) (g.K.Sink.faults c.write_block.new.sink) c.loop-line.invariant.1
    c.in-Err-write_block.ensures.failed
