use Rattle.std.proofs.Common.{◌≡◌, ◌∙◌, sym, ap, subst, ◌+◌, Some, ◌||◌, ◌==◌, not, true, is_some, length, ℕ, Option}
use Rattle.std.specs.Prelude.{option_map}
use Rattle.std.proofs.lemmas.Bool.{or_left, or_right, ne_eqb, not_from_false}
use Rattle.pdus.specs.declared.esis_pdus.pdu.EsisRefusal.TheVariants.{Broken}
use Rattle.pdus.proofs.EsisPdus.Timers.{IsSoFar, wrong_at, timer_at, other_at, end_place, end_seconds}
use Rattle.pdus.proofs.esis_pdus.decoder.read_timer.Goals as goal
use Rattle.pdus.proofs.esis_pdus.decoder.read_timer.Goals.{then-is_some-via-then-is_some, then-is_some-via-else-is_some+then-value-ne2, then-code+else-is_some+else-value-ne2, else-code}

pub returns-then-is_some-clause-judged : goal.returns-then-is_some-clause-judged
returns-then-is_some-clause-judged c =
    let wrong : (is_some c.loop-code.seconds || not (length c.in-Some.value.now == 2)) ≡ true =
    elim c.then-is_some.branch [
      | then-is_some-via-then-is_some w ↦ or_left _ _ (sym c.is_some.ensures ∙ w.if-is_some.true)
      | then-is_some-via-else-is_some+then-value-ne2 w ↦ or_right _ _ (not_from_false _ (ne_eqb _ 2 w.if-value-ne2.true))
    ] in
    ap (λ (o : Option ℕ). option_map (λ p. Broken 12 p) o) (wrong_at _ _ _ _ _ _ _ _ c.loop-code.invariant c.in-Some.ensures.options c.if-code.true wrong)
    ∙ ap (λ r. Some r) (sym c.broken.ensures)

pub loop-code-preserved : goal.loop-code-preserved
loop-code-preserved c =
    elim c.if-code.branch [
      | then-code+else-is_some+else-value-ne2 w ↦
          let P : Option ℕ → Type 0 = λ s. IsSoFar s (c.loop-code.place + (2 + length c.in-Some.value.now)) c.in-Some.others.now c.args.first c.args.options.now in
          subst P (sym w.seconds-is) (timer_at _ _ _ _ _ _ _ _ _ c.loop-code.invariant c.in-Some.ensures.len c.in-Some.ensures.options w.if-code.true (sym w.is_some.ensures ∙ w.if-is_some.false) w.if-value-ne2.false w.pair_at.ensures)
      | else-code w ↦
          let P : Option ℕ → Type 0 = λ s. IsSoFar s (c.loop-code.place + (2 + length c.in-Some.value.now)) c.in-Some.others.now c.args.first c.args.options.now in
          subst P (sym w.seconds-is) (other_at _ _ _ _ _ _ _ _ c.loop-code.invariant c.in-Some.ensures.len c.in-Some.ensures.options w.if-code.false)
    ]

pub returns-clause-judged : goal.returns-clause-judged
returns-clause-judged c = ap (λ (o : Option ℕ). option_map (λ p. Broken 12 p) o) (end_place _ _ _ _ _ c.loop-code.invariant c.in_default.ensures.none)

pub returns-clause-seconds : goal.returns-clause-seconds
returns-clause-seconds c = end_seconds _ _ _ _ _ c.loop-code.invariant c.in_default.ensures.none
