use Rattle.std.proofs.Common.{◌≡◌, Result, Err, ap, length, arith, length-drop, refl, sym}
use Rattle.std.proofs.lemmas.Bool.{eqb-true}
use Rattle.std.proofs.lemmas.List.{take_rest}
use Rattle.clnp_base.specs.declared.command_base.status.Status.{Status}
use Rattle.captures.proofs.CaptureCommands.Answering.{Rose-later}
use Rattle.captures.proofs.CaptureCommands.Steps.{took_all, took_more, took_none, took_stopped}
use Rattle.captures.proofs.capture_commands.teller.Teller.take_all.Goals as goal

pub loop-left-preserved : goal.loop-left-preserved
loop-left-preserved g c =
    let front = c.in-Ok.ensures.front in
    let size = c.in-Ok.ensures.size in (
      took_more c.args.self.now c.loop-left.self c.take_some.new.self c.args.piece.now c.loop-left.left.now c.in-Ok.count (g.K.Sink.written c.args.sink.now)
          (g.K.Sink.written c.loop-left.sink) (g.K.Sink.written c.take_some.new.sink) c.loop-left.invariant.0 front.1 size c.in-Ok.ensures.form
          (λ taken before w. c.in-Ok.ensures.takes taken before w),
      omega (arith, c.loop-left.invariant.1, ap length (take_rest c.loop-left.left.now c.in-Ok.count), length-drop c.in-Ok.count c.loop-left.left.now),
      c.in-Ok.ensures.counted,
      omega (arith, c.loop-left.invariant.3, c.take_some.ensures.later),
    )

pub returns-in-Err-clause-takes : goal.returns-in-Err-clause-takes
returns-in-Err-clause-takes g c =
    took_stopped c.args.self.now c.loop-left.self c.args.piece.now c.loop-left.left.now (g.K.Sink.written c.args.sink.now)
    (g.K.Sink.written c.loop-left.sink) (g.K.Sink.written c.take_some.new.sink) c.in-Err.answer c.loop-left.invariant.0
    (λ taken before w. c.in-Err.ensures.takes taken before w)

pub loop-left-init : goal.loop-left-init
loop-left-init g c =
    (took_none c.args.self.now c.args.piece.now (g.K.Sink.written c.args.sink.now), refl, c.requires.counted, omega arith)

pub returns-in-Err-clause-later : goal.returns-in-Err-clause-later
returns-in-Err-clause-later g c = omega (arith, c.loop-left.invariant.3, c.take_some.ensures.later)

-- a refusal passed on
passed_on : {A B : Type 0} (r : Result A Status) (s : Result B Status) (answer other : Status) → r ≡ Err answer → s ≡ Err answer
    → r ≡ Err other → s ≡ Err other
passed_on r s answer other is same h = cc

pub returns-in-Err-clause-failed : goal.returns-in-Err-clause-failed
returns-in-Err-clause-failed g c = λ is.
    Rose-later (g.K.Sink.faults c.args.sink.now) (g.K.Sink.faults c.loop-left.sink) (g.K.Sink.faults c.take_some.new.sink) c.loop-left.invariant.3
    (c.take_some.ensures.failed (passed_on _ c.take_some.result c.in-Err.answer _ refl c.in-Err.is is))

pub returns-clause-takes : goal.returns-clause-takes
returns-clause-takes g c = λ taken before w.
    let none : length c.loop-left.left.now ≡ 0 = eqb-true (length c.loop-left.left.now) 0 (sym c.loop-left-test.ensures) in
    took_all c.args.self.now c.loop-left.self c.args.piece.now c.loop-left.left.now (g.K.Sink.written c.args.sink.now)
    (g.K.Sink.written c.loop-left.sink) c.loop-left.invariant.0 none taken before w

pub returns-clause-form : goal.returns-clause-form
returns-clause-form g c = let front = c.loop-left.invariant.0 in front.form

pub returns-clause-counted : goal.returns-clause-counted
returns-clause-counted g c = c.loop-left.invariant.2

pub returns-clause-later : goal.returns-clause-later
returns-clause-later g c = c.loop-left.invariant.3

pub returns-clause-size : goal.returns-clause-size
returns-clause-size g c =
    let none : length c.loop-left.left.now ≡ 0 = eqb-true (length c.loop-left.left.now) 0 (sym c.loop-left-test.ensures) in
    omega (arith, c.loop-left.invariant.1, none)

pub take_some-requires-clause-few : goal.take_some-requires-clause-few
take_some-requires-clause-few g c = omega (arith, c.loop-left.invariant.1, c.requires.few)

pub take_some-requires-clause-counted : goal.take_some-requires-clause-counted
take_some-requires-clause-counted g c = c.loop-left.invariant.2
