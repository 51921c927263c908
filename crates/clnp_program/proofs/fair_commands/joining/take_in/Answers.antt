use Rattle.std.proofs.Common.{◌≡◌, ◌+◌, ◌++◌, ◌∷◌, [], List, take, drop, sym, ap, ◌∙◌, subst, arith, take_all, take-append-drop}
use Rattle.std.proofs.lemmas.List.{take_more}
use Rattle.std.proofs.lemmas.Result.{err_from_is_err_and}
use Rattle.system_tables.specs.declared.fair_reassembly.came.Came.{Came}
use Rattle.clnp_program.specs.FairCommands.Writing.{UnderWay}
use Rattle.clnp_program.proofs.FairCommands.Writing.{stopped_before}
use Rattle.clnp_program.proofs.fair_commands.joining.take_in.Goals as goal

pub take_in_next-requires-clause-ready : goal.take_in_next-requires-clause-ready
take_in_next-requires-clause-ready g c = λ place table at.
    ((c.loop-came.invariant.0 c.requires.new.0 c.requires.new.1).behind.each place table at).none_whole

pub returns-in_err-take_in_next-clause-comes_to : goal.returns-in_err-take_in_next-clause-comes_to
returns-in_err-take_in_next-clause-comes_to g c = λ s behind.
    let frames = c.args.frames.now in
    let at = c.loop-came.came-index in
    let came = c.came-item.result in
    let p = err_from_is_err_and c.from_residual.result c.from_residual.ensures.1 in
    let front : take (at + 1) frames ≡ take at frames ++ came ∷ []
    = take_more frames at came c.loop-came-test.true ∙ ap (λ (x : Came). take at frames ++ x ∷ []) (sym c.came-item.is) in
    let split : frames ≡ (take at frames ++ came ∷ []) ++ drop (at + 1) frames
    = sym (take-append-drop (at + 1) frames) ∙ ap (λ (l : List Came). l ++ drop (at + 1) frames) front in
    rw (p.1, p.2) (stopped_before c.what_is_told_goes_on.ensures s (take at frames ++ came ∷ []) (drop (at + 1) frames) frames
    (g.K.Sink.written c.args.sink.now) (g.K.Sink.written c.take_in_next.new.sink) c.in_err-take_in_next.field-0.0 split
    (c.in_err-take_in_next.ensures.comes_to s (take at frames) (g.K.Sink.written c.args.sink.now) (c.loop-came.invariant.0 s behind)))

pub returns-clause-comes_to : goal.returns-clause-comes_to
returns-clause-comes_to g c = λ s behind.
    subst (λ (l : List Came). UnderWay s l c.loop-came.tables (g.K.Sink.written c.args.sink.now) (g.K.Sink.written c.loop-came.sink) c.loop-came.block.items)
    (take_all c.loop-came.came-index c.args.frames.now (omega arith)) (c.loop-came.invariant.0 s behind)
