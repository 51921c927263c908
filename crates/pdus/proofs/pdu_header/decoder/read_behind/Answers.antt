use Rattle.std.proofs.Common.{refl}
use Rattle.std.proofs.lemmas.Result.{err_from_is_err_and}
use Rattle.pdus.specs.PduHeader.Rules.{header_refusal}
use Rattle.pdus.proofs.pdu_header.decoder.read_behind.Goals as goal

pub returns-in_err-kind-clause-judged : goal.returns-in_err-kind-clause-judged
unfolding header_refusal
returns-in_err-kind-clause-judged c =
    let p = err_from_is_err_and c.from_residual.result c.from_residual.ensures.1 in
    rw (p.1, p.2, c.in_err-kind.ensures.judged) refl

pub returns-in-Err-clause-judged : goal.returns-in-Err-clause-judged
unfolding header_refusal
returns-in-Err-clause-judged c = rw (c.in_ok-kind.ensures.judged, c.in-Err.ensures.judged) refl

pub returns-in_err-lengths-clause-judged : goal.returns-in_err-lengths-clause-judged
unfolding header_refusal
returns-in_err-lengths-clause-judged c =
    let p = err_from_is_err_and c.from_residual-in_err-lengths.result c.from_residual-in_err-lengths.ensures.1 in
    rw (p.1, p.2, c.in_ok-kind.ensures.judged, c.in-Ok.ensures.judged, c.in_err-lengths.ensures.judged) refl

pub returns-in_err-options-clause-judged : goal.returns-in_err-options-clause-judged
unfolding header_refusal
returns-in_err-options-clause-judged c =
    let p = err_from_is_err_and c.from_residual-in_err-options.result c.from_residual-in_err-options.ensures.1 in
    rw (p.1, p.2, c.in_ok-kind.ensures.judged, c.in-Ok.ensures.judged, c.in_ok-lengths.ensures.judged, c.in_err-options.ensures.judged) refl

pub returns-clause-judged : goal.returns-clause-judged
unfolding header_refusal
returns-clause-judged c =
    rw (c.in_ok-kind.ensures.judged, c.in-Ok.ensures.judged, c.in_ok-lengths.ensures.judged, c.in_ok-options.ensures.judged) refl

pub returns-clause-value : goal.returns-clause-value
returns-clause-value c =
    rw (
      c.in_ok-kind.ensures.kind,
      c.wants_report.ensures,
      c.has_more.ensures,
      c.pair_at.ensures,
      c.in-Ok.ensures.to,
      c.in-Ok.ensures.from,
      c.in_ok-lengths.ensures.seg,
      c.in_ok-options.ensures.value,
      c.split_at.ensures.front,
      c.in_ok-lengths.ensures.data_length,
    ) refl
