use Rattle.std.proofs.Common.{arith, sym, ◌∙◌}
use Rattle.std.proofs.lemmas.Bool.{eqb-true, eqb-false}
use Rattle.pdus.proofs.ClnpOptions.Places.{fitting_at, fitting_none, place_of_unfit-none, place_of_unfit-some}
use Rattle.pdus.proofs.clnp_options.judge.place_of_unfit.Goals as goal

pub loop-value-preserved : goal.loop-value-preserved
loop-value-preserved c = record {
  at = omega (arith, c.in-Some.ensures.len, c.loop-value.invariant.at);
  same = omega (arith, c.loop-value.invariant.same, fitting_at _ _ _ c.in-Some.ensures.options);
}

pub returns-then-is_empty : goal.returns-then-is_empty
returns-then-is_empty c =
    place_of_unfit-none c.args.first c.args.part.now
    (let h = eqb-true _ 0 (sym c.is_empty.ensures ∙ c.if-is_empty.true) in
    omega (arith, h, c.loop-value.invariant.at, c.loop-value.invariant.same, fitting_none _ c.in_default.ensures.none))

pub returns-else-is_empty : goal.returns-else-is_empty
returns-else-is_empty c =
    place_of_unfit-some c.loop-value.place c.args.first c.args.part.now
    (λ e. eqb-false _ 0 (sym c.is_empty.ensures ∙ c.if-is_empty.false) (omega (arith, e, c.loop-value.invariant.at, c.loop-value.invariant.same, fitting_none _ c.in_default.ensures.none)))
    (omega (arith, c.loop-value.invariant.same, fitting_none _ c.in_default.ensures.none))
