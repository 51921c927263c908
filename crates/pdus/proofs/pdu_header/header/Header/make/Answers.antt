use Rattle.std.proofs.Common.{arith, refl, replicate, sym, List, ℕ}
use Rattle.std.proofs.lemmas.Bool.{le-ltb, lt-ltb}
use Rattle.std.proofs.lemmas.List.{length-replicate}
use Rattle.pdus.specs.PduHeader.Parts.{parts_value}
use Rattle.pdus.proofs.PduHeader.Written.{spells_header}
use Rattle.pdus.proofs.pdu_header.header.Header.make.Goals as goal

pub invariant_of-result : goal.invariant_of-result
invariant_of-result c =
    let body : List ℕ = replicate c.args.body_len 0 in
    (parts_value c.args.parts.now body, spells_header c.args.parts.now body _ c.args.body_len (length-replicate c.args.body_len 0) c.written.ensures.typed c.requires.fit (omega arith) (omega arith) (c.written.ensures.value body (omega (arith, length-replicate {A = ℕ} c.args.body_len 0))))

pub returns-clause-spells : goal.returns-clause-spells
returns-clause-spells c body e =
    spells_header c.args.parts.now body _ c.args.body_len e c.written.ensures.typed c.requires.fit (omega arith) (omega arith) (c.written.ensures.value body (omega arith))

pub returns-then-octets-gt-MOST_HEADER-clause-refused : goal.returns-then-octets-gt-MOST_HEADER-clause-refused
returns-then-octets-gt-MOST_HEADER-clause-refused c = rw (sym c.header_len-octets.ensures.value, lt-ltb _ _ c.if-octets-gt-MOST_HEADER.true) refl

pub returns-then-total-gt-MOST_TOTAL-clause-refused : goal.returns-then-total-gt-MOST_TOTAL-clause-refused
returns-then-total-gt-MOST_TOTAL-clause-refused c =
    rw (sym c.header_len-octets.ensures.value, le-ltb _ _ c.if-octets-gt-MOST_HEADER.false, lt-ltb _ _ c.if-total-gt-MOST_TOTAL.true) refl

pub returns-clause-refused : goal.returns-clause-refused
returns-clause-refused c =
    rw (sym c.header_len-octets.ensures.value, le-ltb _ _ c.if-octets-gt-MOST_HEADER.false, le-ltb _ _ c.if-total-gt-MOST_TOTAL.false) refl
