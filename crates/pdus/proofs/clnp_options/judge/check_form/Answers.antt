use Rattle.std.proofs.lemmas.Result.{err_from_is_err_and}
use Rattle.pdus.proofs.ClnpOptions.Least.{at_rule-found, refused_at_14, passed_14, refused_at_15, refused_at_16, refused_at_17, refused_at_18, passed_18}
use Rattle.pdus.proofs.clnp_options.judge.check_form.Goals as goal
use Rattle.pdus.specs.declared.clnp_options.reasons.Reason.TheVariants.{DuplicateOption, HeaderSyntaxError, SourceRoutingSyntaxError, UnsupportedOption, UnsupportedSecurity}

pub returns-in_err-at_rule : goal.returns-in_err-at_rule
returns-in_err-at_rule c =
    let p = err_from_is_err_and c.from_residual.result c.from_residual.ensures.1 in
    rw (p.1, p.2)
    (refused_at_14 _ _ _ (at_rule-found 14 HeaderSyntaxError _ _ _ c.place_of_unfit.ensures c.in_err-at_rule.ensures))

pub returns-in_err-at_rule-2 : goal.returns-in_err-at_rule-2
returns-in_err-at_rule-2 c =
    let p = err_from_is_err_and c.from_residual-in_err-at_rule-2.result c.from_residual-in_err-at_rule-2.ensures.1 in
    rw (p.1, p.2)
    (passed_14 _ _ _ (at_rule-found 14 HeaderSyntaxError _ _ _ c.place_of_unfit.ensures c.in_ok-at_rule.ensures)
    (refused_at_15 _ _ _ (at_rule-found 15 DuplicateOption _ _ _ c.place_of_repeat.ensures c.in_err-at_rule-2.ensures)))

pub returns-in_err-at_rule-3 : goal.returns-in_err-at_rule-3
returns-in_err-at_rule-3 c =
    let p = err_from_is_err_and c.from_residual-in_err-at_rule-3.result c.from_residual-in_err-at_rule-3.ensures.1 in
    rw (p.1, p.2)
    (passed_14 _ _ _ (at_rule-found 14 HeaderSyntaxError _ _ _ c.place_of_unfit.ensures c.in_ok-at_rule.ensures)
    (refused_at_16 _ _ _ (at_rule-found 15 DuplicateOption _ _ _ c.place_of_repeat.ensures c.in_ok-at_rule-2.ensures)
    (at_rule-found 16 UnsupportedOption _ _ _ c.place_of.ensures c.in_err-at_rule-3.ensures)))

pub returns-in_err-at_rule-4 : goal.returns-in_err-at_rule-4
returns-in_err-at_rule-4 c =
    let p = err_from_is_err_and c.from_residual-in_err-at_rule-4.result c.from_residual-in_err-at_rule-4.ensures.1 in
    rw (p.1, p.2)
    (passed_14 _ _ _ (at_rule-found 14 HeaderSyntaxError _ _ _ c.place_of_unfit.ensures c.in_ok-at_rule.ensures)
    (refused_at_17 _ _ _ (at_rule-found 15 DuplicateOption _ _ _ c.place_of_repeat.ensures c.in_ok-at_rule-2.ensures)
    (at_rule-found 16 UnsupportedOption _ _ _ c.place_of.ensures c.in_ok-at_rule-3.ensures)
    (at_rule-found 17 UnsupportedSecurity _ _ _ c.place_of-2.ensures c.in_err-at_rule-4.ensures)))

pub returns-in_err-at_rule-5 : goal.returns-in_err-at_rule-5
returns-in_err-at_rule-5 c =
    let p = err_from_is_err_and c.from_residual-in_err-at_rule-5.result c.from_residual-in_err-at_rule-5.ensures.1 in
    rw (p.1, p.2)
    (passed_14 _ _ _ (at_rule-found 14 HeaderSyntaxError _ _ _ c.place_of_unfit.ensures c.in_ok-at_rule.ensures)
    (refused_at_18 _ _ _ (at_rule-found 15 DuplicateOption _ _ _ c.place_of_repeat.ensures c.in_ok-at_rule-2.ensures)
    (at_rule-found 16 UnsupportedOption _ _ _ c.place_of.ensures c.in_ok-at_rule-3.ensures)
    (at_rule-found 17 UnsupportedSecurity _ _ _ c.place_of-2.ensures c.in_ok-at_rule-4.ensures)
    (at_rule-found 18 SourceRoutingSyntaxError _ _ _ c.place_of-3.ensures c.in_err-at_rule-5.ensures)))

pub returns : goal.returns
returns c =
    rw (
      passed_14 _ _ _ (at_rule-found 14 HeaderSyntaxError _ _ _ c.place_of_unfit.ensures c.in_ok-at_rule.ensures)
          (passed_18 _ _ (at_rule-found 15 DuplicateOption _ _ _ c.place_of_repeat.ensures c.in_ok-at_rule-2.ensures)
          (at_rule-found 16 UnsupportedOption _ _ _ c.place_of.ensures c.in_ok-at_rule-3.ensures)
          (at_rule-found 17 UnsupportedSecurity _ _ _ c.place_of-2.ensures c.in_ok-at_rule-4.ensures)
          (at_rule-found 18 SourceRoutingSyntaxError _ _ _ c.place_of-3.ensures c.in_ok-at_rule-5.ensures)),
      ← c.place_of-4.ensures,
    )
    c.at_rule-6.ensures
