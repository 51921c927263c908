-- By what the frame begins with.
use Rattle.std.proofs.Common.{ℕ, List, length, ap, sym, ◌∙◌, subst, arith}
use Rattle.std.proofs.lemmas.Result.{on_ok_weaker}
use Rattle.clnp_machine.specs.ClnpOptions.Parameter.{parameters}
use Rattle.clnp_machine.specs.PduHeader.Value.{PduValue}
use Rattle.clnp_machine.specs.PduHeader.View.{pdu_value}
use Rattle.clnp_machine.specs.SystemTables.declared.reassembly.segment.Segment.{Segment}
use Rattle.clnp_machine.specs.Reassembly.Offered.{MayCome}
use Rattle.clnp_machine.specs.Content.{Labelled}
use Rattle.clnp_machine.specs.Local.{Deed, hand_up, offered}
use Rattle.clnp_systems.specs.LocalState.{EntityState}
use Rattle.clnp_systems.specs.Endpoint.{StandsWith}
use Rattle.clnp_systems.specs.Local.{Appends, Stands}
use Rattle.clnp_systems.specs.Receipt.{IsShown, purpose_of}
use Rattle.clnp_systems.proofs.Receiving.{is_shown, may_come, receives_segment, receives_whole, value_is}
use Rattle.clnp_systems.proofs.local.Local.receive_pdu.Goals as goal
use Rattle.clnp_systems.proofs.Parts.{length-header}

pub returns-in_default-clause-stands :
    goal.returns-in_default-clause-stands
returns-in_default-clause-stands c =
    on_ok_weaker c.hand_up.result
    (λ handed s p following stands moment carriable split.
    let pdu = c.args.pdu.now in
    let e = value_is c.a_frame_carries_one_packet.ensures c.args.frame.now (pdu_value pdu) pdu.rest.now c.requires.front p following carriable split in
    let here = subst (λ (e : EntityState). Stands e s) (sym c.self.view_is) stands in
    subst (λ (deed : Deed). StandsWith c.self.inside.table c.hand_up.new.self deed.after)
    (ap (λ (octets : List ℕ). hand_up s pdu.kind pdu.from pdu.to octets (parameters pdu.options.now)) c.in_ok-octets.ensures
    ∙ sym (receives_whole pdu s p following e (sym c.segment_part.ensures ∙ c.in_default.is)))
    (handed c.self.inside.table s pdu.kind (parameters pdu.options.now) here moment c.purpose_in-purpose.ensures))
    c.hand_up.ensures.stands

pub returns-in_default-clause-actions :
    goal.returns-in_default-clause-actions
returns-in_default-clause-actions c =
    on_ok_weaker c.hand_up.result
    (λ handed s p following stands moment carriable split.
    let pdu = c.args.pdu.now in
    let e = value_is c.a_frame_carries_one_packet.ensures c.args.frame.now (pdu_value pdu) pdu.rest.now c.requires.front p following carriable split in
    let here = subst (λ (e : EntityState). Stands e s) (sym c.self.view_is) stands in
    subst (λ (deed : Deed). Appends c.args.out.now.items c.hand_up.new.out.items deed.actions)
    (ap (λ (octets : List ℕ). hand_up s pdu.kind pdu.from pdu.to octets (parameters pdu.options.now)) c.in_ok-octets.ensures
    ∙ sym (receives_whole pdu s p following e (sym c.segment_part.ensures ∙ c.in_default.is)))
    (handed c.self.inside.table s pdu.kind (parameters pdu.options.now) here moment c.purpose_in-purpose.ensures))
    c.hand_up.ensures.actions

pub segment_in-requires-clause-head : goal.segment_in-requires-clause-head
segment_in-requires-clause-head c =
    let fits = c.requires.header.pdu.header_fits in
    omega (arith, ap length c.requires.header.octets_are, length-header (pdu_value c.args.pdu.now))

pub offer-requires-clause-offered : goal.offer-requires-clause-offered
offer-requires-clause-offered c =
    let pdu = c.args.pdu.now in
    subst MayCome (sym c.in_ok-segment.ensures)
    (may_come c.args.frame.now pdu c.in-Some.part c.requires.header.octets_are (sym c.segment_part.ensures ∙ c.in-Some.is) pdu.rest.now c.requires.front
    c.requires.few c.requires.alive)

pub returns-clause-stands : goal.returns-clause-stands
returns-clause-stands c =
    on_ok_weaker c.offer.result
    (λ offers s p following stands moment carriable split.
    let pdu = c.args.pdu.now in
    let some = sym c.segment_part.ensures ∙ c.in-Some.is in
    let e = value_is c.a_frame_carries_one_packet.ensures c.args.frame.now (pdu_value pdu) pdu.rest.now c.requires.front p following carriable split in
    let shows = subst (λ (segment : Segment). IsShown segment (offered p following)) (sym c.in_ok-segment.ensures)
    (is_shown c.args.frame.now pdu c.in-Some.part c.requires.header.octets_are some p following carriable split e) in
    subst (λ (deed : Deed). Stands c.offer.new.self deed.after) (sym (receives_segment pdu c.in-Some.part s p following e some))
    (offers s (Labelled p following) (offered p following) stands moment shows (sym split)
    (c.purpose_in-purpose.ensures ∙ ap (λ (v : PduValue). purpose_of v.kind v.options) e)))
    c.offer.ensures.stands

pub returns-clause-actions : goal.returns-clause-actions
returns-clause-actions c =
    on_ok_weaker c.offer.result
    (λ offers s p following stands moment carriable split.
    let pdu = c.args.pdu.now in
    let some = sym c.segment_part.ensures ∙ c.in-Some.is in
    let e = value_is c.a_frame_carries_one_packet.ensures c.args.frame.now (pdu_value pdu) pdu.rest.now c.requires.front p following carriable split in
    let shows = subst (λ (segment : Segment). IsShown segment (offered p following)) (sym c.in_ok-segment.ensures)
    (is_shown c.args.frame.now pdu c.in-Some.part c.requires.header.octets_are some p following carriable split e) in
    subst (λ (deed : Deed). Appends c.args.out.now.items c.offer.new.out.items deed.actions) (sym (receives_segment pdu c.in-Some.part s p following e some))
    (offers s (Labelled p following) (offered p following) stands moment shows (sym split)
    (c.purpose_in-purpose.ensures ∙ ap (λ (v : PduValue). purpose_of v.kind v.options) e)))
    c.offer.ensures.actions
