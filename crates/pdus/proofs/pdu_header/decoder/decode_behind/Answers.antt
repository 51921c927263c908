use Rattle.std.proofs.Common.{◌∙◌, ◌++◌, ap, arith, length, refl, sym}
use Rattle.pdus.specs.PduHeader.View.{pdu_value}
use Rattle.pdus.proofs.PduHeader.Frames.{nothing_spelled, read_front, read_header}
use Rattle.pdus.proofs.PduHeader.ShortHeaders.{header_there, octets_of_both, protocol_there, refusal_there, reportable_there, rest_there, value_there}
use Rattle.pdus.proofs.PduHeader.Written.{length-header}
use Rattle.pdus.proofs.pdu_header.decoder.decode_behind.Goals as goal

pub returns-in-Ok-clause-accepted : goal.returns-in-Ok-clause-accepted
returns-in-Ok-clause-accepted c = (
  protocol_there c.args.head.now c.args.behind.now c.requires,
  refusal_there c.args.head.now c.args.behind.now c.requires ∙ c.in-Ok.ensures.judged,
)

pub returns-in-Ok-clause-judged : goal.returns-in-Ok-clause-judged
returns-in-Ok-clause-judged c =
    let stands = returns-in-Ok-clause-accepted c in
    rw (stands.0, stands.1) refl

pub returns-in-Ok-clause-found : goal.returns-in-Ok-clause-found
returns-in-Ok-clause-found c =
    let stands = returns-in-Ok-clause-accepted c in
    read_front (c.args.head.now ++ c.args.behind.now) _ _
    (octets_of_both c.args.head.now c.args.behind.now (λ i. omega (arith, c.type_inv.head i)) (λ i. omega (arith, c.type_inv.behind i)))
    stands.0 stands.1
    (c.in-Ok.ensures.value ∙ value_there c.args.head.now c.args.behind.now c.requires)
    (c.in-Ok.ensures.rest ∙ rest_there c.args.head.now c.args.behind.now c.requires)

pub returns-in-Ok-clause-header : goal.returns-in-Ok-clause-header
returns-in-Ok-clause-header c =
    let stands = returns-in-Ok-clause-accepted c in
    read_header (c.args.head.now ++ c.args.behind.now) _ _
    (octets_of_both c.args.head.now c.args.behind.now (λ i. omega (arith, c.type_inv.head i)) (λ i. omega (arith, c.type_inv.behind i)))
    stands.0 stands.1
    (c.in-Ok.ensures.head ∙ sym (header_there c.args.head.now c.args.behind.now c.requires))
    (c.in-Ok.ensures.value ∙ value_there c.args.head.now c.args.behind.now c.requires)

pub returns-in-Ok-clause-spells : goal.returns-in-Ok-clause-spells
returns-in-Ok-clause-spells c = record { pdu = (returns-in-Ok-clause-found c).spells.pdu; octets_are = returns-in-Ok-clause-header c }

pub returns-in-Ok-clause-size : goal.returns-in-Ok-clause-size
returns-in-Ok-clause-size c = ap length (returns-in-Ok-clause-header c) ∙ length-header (pdu_value c.in-Ok.pdu)

pub returns-in-Ok-clause-head : goal.returns-in-Ok-clause-head
returns-in-Ok-clause-head c = c.in-Ok.ensures.head ∙ sym (header_there c.args.head.now c.args.behind.now c.requires)

pub returns-in-Ok-clause-sum : goal.returns-in-Ok-clause-sum
returns-in-Ok-clause-sum c = c.in-Ok.ensures.sum

pub returns-in-Ok-clause-options : goal.returns-in-Ok-clause-options
returns-in-Ok-clause-options c = c.in-Ok.ensures.options

pub returns-in-Err-clause-judged : goal.returns-in-Err-clause-judged
returns-in-Err-clause-judged c =
    let broken = refusal_there c.args.head.now c.args.behind.now c.requires ∙ c.in-Err.ensures.judged in
    rw (
      protocol_there c.args.head.now c.args.behind.now c.requires,
      broken,
      reportable_there c.args.head.now c.args.behind.now c.requires,
      c.is_some.ensures,
      c.reportable_header.ensures.some,
    ) refl

pub returns-in-Err-clause-none : goal.returns-in-Err-clause-none
returns-in-Err-clause-none c =
    nothing_spelled (c.args.head.now ++ c.args.behind.now) _
    (refusal_there c.args.head.now c.args.behind.now c.requires ∙ c.in-Err.ensures.judged)
