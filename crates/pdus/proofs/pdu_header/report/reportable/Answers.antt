use Rattle.std.proofs.Common.{refl, sym}
use Rattle.pdus.proofs.pdu_header.report.reportable.Goals as goal

pub returns-then-not-is_clnp-clause-some : goal.returns-then-not-is_clnp-clause-some
returns-then-not-is_clnp-clause-some c = rw (sym c.is_clnp.ensures, c.if-not-is_clnp.true) refl

pub returns-in_default-clause-some : goal.returns-in_default-clause-some
returns-in_default-clause-some c = rw (sym c.is_clnp.ensures, c.if-not-is_clnp.false, c.in_default.ensures.judged) refl

pub returns-clause-some : goal.returns-clause-some
returns-clause-some c =
    rw (sym c.is_clnp.ensures, c.if-not-is_clnp.false, c.in-Ok.ensures.judged, sym c.in-Ok.ensures.header) c.reportable_header.ensures.some

pub returns-clause-from : goal.returns-clause-from
returns-clause-from c = rw (sym c.in-Ok.ensures.header) c.reportable_header.ensures.from

pub returns-clause-head : goal.returns-clause-head
returns-clause-head c = rw (sym c.in-Ok.ensures.header) c.reportable_header.ensures.head_len

pub returns-clause-head_len : goal.returns-clause-head_len
returns-clause-head_len c = rw (sym c.in-Ok.ensures.size) c.reportable_header.ensures.head_len
