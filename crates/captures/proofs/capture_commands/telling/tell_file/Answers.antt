use Rattle.std.proofs.Common.{◌≡◌, subst, arith, refl, rules, ◌∙◌}
use Rattle.clnp_base.specs.Streams.{Rose}
use Rattle.captures.specs.declared.capture_commands.form.Form.{Form}
use Rattle.captures.specs.CaptureCommands.Serves.{ComesTo}
use Rattle.captures.proofs.CaptureCommands.Answering.{Rose-later, goes_first, nothing_served, serves}
use Rattle.captures.proofs.capture_commands.telling.tell_file.Goals as goal

pub loop-answer-init : goal.loop-answer-init
loop-answer-init g c =
    let begins = c.in-Ok.ensures in
    let size : c.in-Ok.teller.size ≡ 0 = begins.3 in
    let number : c.in-Ok.teller.number ≡ 0 = begins.2 in (
      goes_first c.in-Ok.teller c.args.form (g.S.Source.left c.args.source.now) (g.K.Sink.written c.args.sink.now) begins,
      begins.0,
      omega (arith, size),
      omega (arith, size, number),
      begins.4,
      omega (arith, c.as_mut_slice-chunk.ensures.len, c.in-Ok-vec.ensures.len),
      omega arith,
      omega arith,
    )

pub loop-answer-preserved : goal.loop-answer-preserved
loop-answer-preserved g c =
    let next = c.in_default-take_next.ensures in (
      next.comes_to (g.S.Source.left c.args.source.now) (g.K.Sink.written c.args.sink.now) c.loop-answer.invariant.0,
      next.form ∙ c.loop-answer.invariant.1,
      next.size.1,
      next.counted,
      next.none_waits,
      search rules,
      omega (arith, c.loop-answer.invariant.6, c.take_next.ensures.later.0),
      omega (arith, c.loop-answer.invariant.7, c.take_next.ensures.later.1),
    )

pub returns-in_default-clause-serves : goal.returns-in_default-clause-serves
returns-in_default-clause-serves g c =
    nothing_served c.args.form (g.S.Source.left c.args.source.now) (g.K.Sink.written c.args.sink.now)
    (Rose (g.S.Source.faults c.args.source.now) (g.S.Source.faults c.args.source.now)) (Rose (g.K.Sink.faults c.args.sink.now) (g.K.Sink.faults c.args.sink.now))

pub returns-in_default-vec-clause-serves : goal.returns-in_default-vec-clause-serves
returns-in_default-vec-clause-serves g c =
    nothing_served c.args.form (g.S.Source.left c.args.source.now) (g.K.Sink.written c.args.sink.now)
    (Rose (g.S.Source.faults c.args.source.now) (g.S.Source.faults c.args.source.now)) (Rose (g.K.Sink.faults c.args.sink.now) (g.K.Sink.faults c.args.sink.now))

pub returns-in-Some-clause-serves : goal.returns-in-Some-clause-serves
returns-in-Some-clause-serves g c =
    let before = g.K.Sink.written c.args.sink.now in
    let left = g.S.Source.left c.args.source.now in
    let comes = c.in-Some.ensures.comes_to left before c.loop-answer.invariant.0 in
    serves c.args.form left (g.S.Source.left c.take_next.new.source) before (g.K.Sink.written c.take_next.new.sink)
    (Rose (g.S.Source.faults c.args.source.now) (g.S.Source.faults c.take_next.new.source))
    (Rose (g.K.Sink.faults c.args.sink.now) (g.K.Sink.faults c.take_next.new.sink))
    c.in-Some.answer
    (subst (λ (f : Form). ComesTo f left (g.S.Source.left c.take_next.new.source) before (g.K.Sink.written c.take_next.new.sink) c.in-Some.answer)
    c.loop-answer.invariant.1 comes)
    (λ is. Rose-later (g.S.Source.faults c.args.source.now) (g.S.Source.faults c.loop-answer.source) (g.S.Source.faults c.take_next.new.source)
    c.loop-answer.invariant.6 (c.in-Some.ensures.read_fault (rw is refl)))
    (λ is. Rose-later (g.K.Sink.faults c.args.sink.now) (g.K.Sink.faults c.loop-answer.sink) (g.K.Sink.faults c.take_next.new.sink)
    c.loop-answer.invariant.7 (c.in-Some.ensures.write_fault (rw is refl)))
