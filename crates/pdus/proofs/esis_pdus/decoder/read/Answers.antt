use Rattle.std.proofs.Common.{◌∙◌, ap, refl, sym, None, Some}
use Rattle.std.proofs.lemmas.Result.{err_from_is_err_and}
use Rattle.pdus.specs.ClnpOptions.Parameter.{parameters}
use Rattle.pdus.specs.EsisPdus.Value.{suggested}
use Rattle.pdus.proofs.EsisPdus.Judged.{of_frame, of_fixed, of_addresses, of_options, suggested_is}
use Rattle.pdus.proofs.esis_pdus.decoder.read.Goals as goal

pub returns-in_err-head-clause-judged : goal.returns-in_err-head-clause-judged
returns-in_err-head-clause-judged c =
    let p = err_from_is_err_and c.from_residual.result c.from_residual.ensures.1 in
    rw (p.1, p.2) (of_frame c.args.frame.now c.in_err-head.field-0.0 c.in_err-head.ensures.judged)

pub returns-in_err-kind-clause-judged : goal.returns-in_err-kind-clause-judged
returns-in_err-kind-clause-judged c =
    let p = err_from_is_err_and c.from_residual-in_err-kind.result c.from_residual-in_err-kind.ensures.1 in
    rw (p.1, p.2)
    (of_fixed c.args.frame.now c.in_ok-head.head.now c.in_ok-head.ensures.header c.in_ok-head.ensures.judged
    c.in_err-kind.field-0.0 c.in_err-kind.ensures.judged)

pub returns-in-Err-clause-judged : goal.returns-in-Err-clause-judged
returns-in-Err-clause-judged c =
    of_addresses c.args.frame.now c.in_ok-head.head.now c.in_ok-head.ensures.header c.in_ok-head.ensures.judged
    c.in-Err.refusal c.in_ok-kind.ensures.judged c.in-Err.ensures.judged

pub returns-in_err-suggested-clause-judged : goal.returns-in_err-suggested-clause-judged
returns-in_err-suggested-clause-judged c =
    let p = err_from_is_err_and c.from_residual-in_err-suggested.result c.from_residual-in_err-suggested.ensures.1 in
    rw (p.1, p.2)
    (of_options c.args.frame.now c.in_ok-head.head.now c.in_ok-head.ensures.header c.in_ok-head.ensures.judged
    (Some c.in_err-suggested.field-0.0) c.in_ok-kind.ensures.judged c.in-Ok.ensures.judged c.in_err-suggested.ensures.judged)

pub returns-clause-judged : goal.returns-clause-judged
returns-clause-judged c =
    of_options c.args.frame.now c.in_ok-head.head.now c.in_ok-head.ensures.header c.in_ok-head.ensures.judged
    None c.in_ok-kind.ensures.judged c.in-Ok.ensures.judged c.in_ok-suggested.ensures.judged

pub returns-clause-value : goal.returns-clause-value
returns-clause-value c =
    rw (sym c.in_ok-head.ensures.header) (rw c.pair_at.ensures (rw c.pair_at-2.ensures (rw c.in-Ok.ensures.body (rw c.in-Ok.ensures.options refl))))

pub returns-clause-options : goal.returns-clause-options
returns-clause-options c = rw (sym c.in_ok-head.ensures.header) c.in-Ok.ensures.options

pub returns-clause-suggested : goal.returns-clause-suggested
returns-clause-suggested c =
    let options = parameters c.in-Ok.parts.options.now in
    c.in_ok-suggested.ensures.seconds
    ∙ (suggested_is c.in_ok-head.head.now options c.in_ok-kind.kind c.in_ok-kind.ensures.kind ∙ ap (λ body. suggested body options) (sym c.in-Ok.ensures.body))
