use Rattle.std.proofs.Common.{◌≡◌, ◌∙◌, ◌==◌, ap, false, length, arith, rules}
use Rattle.pdus.specs.PduHeader.View.{pdu_value}
use Rattle.pdus.specs.PduHeader.Rules.{octet}
use Rattle.pdus.proofs.PduHeader.Frames.{nothing_spelled, other_protocol, read_front, read_header}
use Rattle.pdus.proofs.PduHeader.Written.{length-header}
use Rattle.pdus.proofs.pdu_header.decoder.decode.Goals as goal

pub returns-in-Ok-clause-found : goal.returns-in-Ok-clause-found
returns-in-Ok-clause-found c =
    let protocol : octet c.args.frame.now 1 ≡ 0x81 = search rules in
    read_front c.args.frame.now _ _ (λ i. omega (arith, c.type_inv.frame i)) protocol c.in-Ok.ensures.judged c.in-Ok.ensures.value c.in-Ok.ensures.rest

pub returns-in-Ok-clause-header : goal.returns-in-Ok-clause-header
returns-in-Ok-clause-header c =
    let protocol : octet c.args.frame.now 1 ≡ 0x81 = search rules in
    read_header c.args.frame.now _ _ (λ i. omega (arith, c.type_inv.frame i)) protocol c.in-Ok.ensures.judged c.in-Ok.ensures.head c.in-Ok.ensures.value

pub returns-in-Err-clause-none : goal.returns-in-Err-clause-none
returns-in-Err-clause-none c = nothing_spelled c.args.frame.now _ c.in-Err.ensures.judged

pub returns-then-not-is_clnp-clause-none : goal.returns-then-not-is_clnp-clause-none
returns-then-not-is_clnp-clause-none c =
    let differs : (octet c.args.frame.now 1 == 0x81) ≡ false = search rules in
    other_protocol c.args.frame.now differs

pub returns-in-Ok-clause-spells : goal.returns-in-Ok-clause-spells
returns-in-Ok-clause-spells c = record { pdu = (returns-in-Ok-clause-found c).spells.pdu; octets_are = returns-in-Ok-clause-header c }

pub returns-in-Ok-clause-size : goal.returns-in-Ok-clause-size
returns-in-Ok-clause-size c = ap length (returns-in-Ok-clause-header c) ∙ length-header (pdu_value c.in-Ok.pdu)
