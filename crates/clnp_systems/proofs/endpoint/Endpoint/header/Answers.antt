use Rattle.std.proofs.Common.{◌<◌, ◌∙◌, ap, subst}
use Rattle.std.specs.Prelude.{ℕ, Some}
use Rattle.clnp_machine.specs.Pdus.declared.pdu_header.header.HeaderRefusal.{HeaderRefusal}
use Rattle.clnp_machine.specs.PduHeader.Value.{PduValue}
use Rattle.clnp_machine.specs.PduHeader.Headers.{SpellsHeader}
use Rattle.clnp_machine.specs.PduHeader.Spelling.{header_length}
use Rattle.clnp_machine.specs.PduHeader.Parts.{parts_length}
use Rattle.clnp_machine.specs.ClnpPlan.declared.ask.SendRefusal.TheVariants.{TooLong}
use Rattle.clnp_systems.proofs.Parts.{too_long_header}
use Rattle.clnp_systems.proofs.endpoint.Endpoint.header.Goals as goal

pub returns-in-Ok : goal.returns-in-Ok
returns-in-Ok c = λ table s octets stands same.
    subst (λ (v : PduValue). SpellsHeader v c.in-Ok.head) (c.parts-parts.ensures.value table s octets stands same) (c.in-Ok.ensures.spells octets same)

pub returns-in-Err-HeaderTooLong : goal.returns-in-Err-HeaderTooLong
returns-in-Err-HeaderTooLong c = λ table s octets stands same.
    let length_is = ap (λ (v : PduValue). header_length v) (c.parts-parts.ensures.value table s octets stands same) in
    let refused = too_long_header (parts_length c.parts-parts.result) c.args.body_len c.in-Err-HeaderTooLong.octets
    (c.in-Err-HeaderTooLong.ensures.refused ∙ ap (λ (r : HeaderRefusal). Some r) c.in-Err-HeaderTooLong.field-0-is) in
    (ap (λ (n : ℕ). TooLong n) (refused.0 ∙ length_is), subst (λ (n : ℕ). 254 < n) length_is refused.1)
