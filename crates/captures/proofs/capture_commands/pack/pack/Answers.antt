use Rattle.std.proofs.Common.{◌≡◌, ◌∷◌, [], ◌+◌, ◌≤◌, length, arith, refl}
use Rattle.clnp_base.specs.Text.{lines_of}
use Rattle.clnp_base.specs.CommandBase.ByLine.{Midway}
use Rattle.captures.specs.CaptureCommands.Pack.{packing}
use Rattle.clnp_base.proofs.CommandBase.ByLine.{start, stopped, all_done, all_cut}
use Rattle.captures.proofs.CaptureCommands.Packs.{pack_total}
use Rattle.captures.proofs.capture_commands.pack.pack.Goals as goal
use Rattle.clnp_base.proofs.Reading.{lines_of-few}

pub loop-line-init : goal.loop-line-init
loop-line-init g c =
    let lines : length (lines_of c.args.text.now) ≤ length c.args.text.now = lines_of-few c.args.text.now in (
      rw c.new-block.ensures.items (start packing 1 (lines_of c.args.text.now) (g.K.Sink.written c.args.sink.now)),
      omega arith,
      omega (arith, lines),
    )

pub returns-in-Err-clause-comes_to : goal.returns-in-Err-clause-comes_to
returns-in-Err-clause-comes_to g c =
    let here : Midway packing 1 (c.loop-line.number + 1) (lines_of c.args.text.now) (c.in-Some.line.now ∷ lines_of c.in-Some.others.now)
    (g.K.Sink.written c.args.sink.now) (g.K.Sink.written c.loop-line.sink) c.loop-line.block.items =
    rw c.in-Some.ensures.line at c.loop-line.invariant.0 in
    rw c.status.ensures
    (stopped packing 1 (lines_of c.args.text.now) (c.loop-line.number + 1) (g.K.Sink.written c.args.sink.now)
    (g.K.Sink.written c.pack_next.new.sink) c.in-Err.stop (pack_total c.the_outcome_of_a_line.ensures.some) (λ now. refl)
    (c.in-Err.ensures.comes_to (lines_of c.args.text.now) (lines_of c.in-Some.others.now) (c.loop-line.number + 1) (g.K.Sink.written c.args.sink.now) here))

pub returns-in-Ok-write_block-clause-comes_to : goal.returns-in-Ok-write_block-clause-comes_to
returns-in-Ok-write_block-clause-comes_to g c =
    let none : lines_of c.loop-line.left.now ≡ [] = c.in_default.ensures.line in
    all_done packing 1 (c.loop-line.number + 1) (lines_of c.args.text.now) (lines_of c.loop-line.left.now) (g.K.Sink.written c.args.sink.now)
    (g.K.Sink.written c.loop-line.sink) (g.K.Sink.written c.write_block.new.sink) c.loop-line.block.items none refl refl
    c.loop-line.invariant.0 c.in-Ok-write_block.ensures.done

pub returns-clause-comes_to : goal.returns-clause-comes_to
returns-clause-comes_to g c =
    let none : lines_of c.loop-line.left.now ≡ [] = c.in_default.ensures.line in
    all_cut packing 1 (c.loop-line.number + 1) (lines_of c.args.text.now) (lines_of c.loop-line.left.now) (g.K.Sink.written c.args.sink.now)
    (g.K.Sink.written c.loop-line.sink) (g.K.Sink.written c.write_block.new.sink) c.loop-line.block.items none refl
    c.loop-line.invariant.0 c.in-Err-write_block.ensures.front
