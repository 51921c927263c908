use Rattle.std.proofs.Common.{arith, refl, sym}
use Rattle.std.proofs.lemmas.Bool.{le-ltb, lt-ltb}
use Rattle.pdus.proofs.PduHeader.Written.{spells}
use Rattle.pdus.proofs.pdu_header.encoding.encode.Goals as goal

pub returns-clause-spells : goal.returns-clause-spells
returns-clause-spells c = spells c.args.parts.now c.args.body.now c.written-cells.ensures.typed c.requires (omega arith) (omega arith)

pub returns-then-octets-gt-MOST_HEADER-clause-refused : goal.returns-then-octets-gt-MOST_HEADER-clause-refused
returns-then-octets-gt-MOST_HEADER-clause-refused c = rw (sym c.header_len-octets.ensures.value, lt-ltb _ _ c.if-octets-gt-MOST_HEADER.true) refl

pub returns-then-total-gt-MOST_TOTAL-clause-refused : goal.returns-then-total-gt-MOST_TOTAL-clause-refused
returns-then-total-gt-MOST_TOTAL-clause-refused c =
    rw (sym c.header_len-octets.ensures.value, le-ltb _ _ c.if-octets-gt-MOST_HEADER.false, lt-ltb _ _ c.if-total-gt-MOST_TOTAL.true) refl

pub returns-then-is_err-clause-refused : goal.returns-then-is_err-clause-refused
returns-then-is_err-clause-refused c =
    rw (sym c.header_len-octets.ensures.value, le-ltb _ _ c.if-octets-gt-MOST_HEADER.false, le-ltb _ _ c.if-total-gt-MOST_TOTAL.false) refl

pub returns-then-is_err-2-clause-refused : goal.returns-then-is_err-2-clause-refused
returns-then-is_err-2-clause-refused c =
    rw (sym c.header_len-octets.ensures.value, le-ltb _ _ c.if-octets-gt-MOST_HEADER.false, le-ltb _ _ c.if-total-gt-MOST_TOTAL.false) refl

pub returns-clause-refused : goal.returns-clause-refused
returns-clause-refused c =
    rw (sym c.header_len-octets.ensures.value, le-ltb _ _ c.if-octets-gt-MOST_HEADER.false, le-ltb _ _ c.if-total-gt-MOST_TOTAL.false) refl
