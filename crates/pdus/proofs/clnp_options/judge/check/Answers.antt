use Rattle.std.proofs.Common.{refl}
use Rattle.std.proofs.lemmas.Result.{err_from_is_err_and}
use Rattle.pdus.proofs.ClnpOptions.Least.{refused_by_form, passed_form, accepted_iff, well_formed_on_ok}
use Rattle.pdus.proofs.clnp_options.judge.check.Goals as goal

pub returns-in_err-check_form-clause-judged : goal.returns-in_err-check_form-clause-judged
returns-in_err-check_form-clause-judged c =
    let p = err_from_is_err_and c.from_residual.result c.from_residual.ensures.1 in
    rw (p.1, p.2) (refused_by_form _ _ _ _ c.in_err-check_form.ensures)

pub returns-in_err-check_form-clause-accepted : goal.returns-in_err-check_form-clause-accepted
returns-in_err-check_form-clause-accepted c =
    accepted_iff c.from_residual.result c.args.part.now c.args.first c.args.is_report
    (let p = err_from_is_err_and c.from_residual.result c.from_residual.ensures.1 in
    rw (p.1, p.2) (refused_by_form _ _ _ _ c.in_err-check_form.ensures))

pub returns-clause-judged : goal.returns-clause-judged
returns-clause-judged c =
    rw (passed_form _ _ _ _ c.in_ok-check_form.ensures refl, ← c.place_of_reason.ensures) c.at_rule.ensures

pub returns-clause-accepted : goal.returns-clause-accepted
returns-clause-accepted c =
    accepted_iff c.at_rule.result c.args.part.now c.args.first c.args.is_report
    (rw (passed_form _ _ _ _ c.in_ok-check_form.ensures refl, ← c.place_of_reason.ensures) c.at_rule.ensures)

pub returns-clause-well_formed : goal.returns-clause-well_formed
returns-clause-well_formed c =
    well_formed_on_ok c.at_rule.result c.args.part.now c.args.first c.args.is_report
    (rw (passed_form _ _ _ _ c.in_ok-check_form.ensures refl, ← c.place_of_reason.ensures) c.at_rule.ensures)
