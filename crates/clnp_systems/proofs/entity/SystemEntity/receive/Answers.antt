-- What the entity does is given out, and then the answer to a group.
use Rattle.std.proofs.Common.{◌≡◌, ◌∙◌, ℕ, true, refl, sym, ap, subst, List, ◌++◌, take, None}
use Rattle.std.specs.List.{AllByRecursion}
use Rattle.clnp_machine.specs.ClnpPlan.Configuration.{SystemConfiguration}
use Rattle.clnp_machine.specs.Given.{Appends}
use Rattle.clnp_machine.specs.Local.{has_address, is_own, receive}
use Rattle.clnp_machine.specs.PduHeader.View.{pdu_value}
use Rattle.clnp_machine.specs.Step.{effect_of, responds}
use Rattle.clnp_machine.specs.System.{SystemState, Output}
use Rattle.clnp_systems.specs.Deeds.{IsFresh}
use Rattle.clnp_systems.specs.Seen.{state_of}
use Rattle.clnp_systems.specs.EntityState.{SystemEntityState}
use Rattle.clnp_systems.specs.EntityStands.{PartsStand}
use Rattle.clnp_systems.proofs.Outputs.{all_done, appends_both, front_more}
use Rattle.clnp_systems.proofs.Packets.{frame_is, packet_carriable, packet_of}
use Rattle.clnp_systems.proofs.EntityParts.{deed_is_fresh, parts_after_deed, parts_now}
use Rattle.clnp_systems.proofs.Receipt.{received_after, received_outputs}
use Rattle.clnp_systems.proofs.Working.{on_err, on_ok_refused, sound_at_work}
use Rattle.clnp_systems.proofs.entity.SystemEntity.receive.Goals as goal

pub give_out-requires : goal.give_out-requires
give_out-requires c =
    let s = c.requires.at_work.state in
    let parts = subst (λ (e : SystemEntityState). PartsStand e s) (sym c.self.view_is) c.requires.at_work.parts in
    let v = pdu_value c.args.pdu.now in
    let rest = c.args.pdu.now.rest.now in
    let begins = c.requires.front in
    let deed = receive s (packet_of v) rest in (
      deed.actions,
      all_done c.new-actions.result.items c.receive_pdu.new.out.items deed.actions c.new-actions.ensures.items
          (c.in_ok-receive_pdu.ensures.actions s (packet_of v) rest parts.local (sym parts.moment) (packet_carriable v begins.spells.pdu)
          (frame_is c.args.frame.now v rest begins)),
    )

pub returns-in-Err-clause-none : goal.returns-in-Err-clause-none
returns-in-Err-clause-none c =
    c.truncate.ensures.items
    ∙ ap (λ (n : ℕ). take n c.respond.new.out.items) (c.len-before.ensures ∙ c.args.out.now.ok.0)
    ∙ front_more c.args.out.now.items c.give_out.new.out.items c.respond.new.out.items c.give_out.ensures.front c.respond.ensures.front

pub returns-clause-stands : goal.returns-clause-stands
returns-clause-stands c = λ s p following h carriable frame alive own.
    let parts = subst (λ (e : SystemEntityState). PartsStand e s) (sym c.self.view_is) h in
    let deed = receive s p following in
    let is = c.deeds_are_of_their_moment.ensures.receive s p following in
    let here : SystemEntityState = record (state_of c.self.inside) { local = c.receive_pdu.new.self } in
    subst (λ (t : SystemState). PartsStand here t) (sym (received_after s p following c.args.neighbour c.args.group alive own))
    (parts_now s.moment here deed.after is.moment (parts_after_deed s.moment _ c.receive_pdu.new.self s deed is
    (c.in_ok-receive_pdu.ensures.stands s p following parts.local (sym parts.moment) carriable frame) parts))

pub returns-clause-outputs : goal.returns-clause-outputs
returns-clause-outputs c = λ s p following h carriable frame alive own.
    let parts = subst (λ (e : SystemEntityState). PartsStand e s) (sym c.self.view_is) h in
    let deed = receive s p following in
    let t = deed.after in
    let is = c.deeds_are_of_their_moment.ensures.receive s p following in
    let here : SystemEntityState = record (state_of c.self.inside) { local = c.receive_pdu.new.self } in
    let stands : PartsStand here t = parts_now s.moment here t is.moment (parts_after_deed s.moment _ c.receive_pdu.new.self s deed is
    (c.in_ok-receive_pdu.ensures.stands s p following parts.local (sym parts.moment) carriable frame) parts) in
    let done = all_done c.new-actions.result.items c.receive_pdu.new.out.items deed.actions c.new-actions.ensures.items
    (c.in_ok-receive_pdu.ensures.actions s p following parts.local (sym parts.moment) carriable frame) in
    let first = c.in_ok-give_out.ensures.given t t.moment deed.actions stands done
    (subst (λ (m : ℕ). AllByRecursion (IsFresh m) deed.actions) (sym is.moment) (deed_is_fresh s deed is)) in
    let own_there : is_own t p.unit.destination ≡ true =
    ap (λ (x : SystemConfiguration). has_address x p.unit.destination) is.itself.configuration ∙ own in
    let second = c.in_default.ensures.told t p stands alive own_there in
    let all = appends_both t.moment None c.args.out.now.items c.give_out.new.out.items c.respond.new.out.items (effect_of deed).outputs
    (responds t c.args.neighbour c.args.group p).outputs first second in
    subst (λ (outputs : List Output). Appends s.moment None c.args.out.now.items c.respond.new.out.items outputs)
    (sym (received_outputs s p following c.args.neighbour c.args.group alive own))
    (subst (λ (m : ℕ). Appends m None c.args.out.now.items c.respond.new.out.items ((effect_of deed).outputs ++ (responds t c.args.neighbour c.args.group p).outputs)) is.moment all)

-- what it keeps, and where memory is refused
pub invariant_of-self : goal.invariant_of-self
invariant_of-self c = sound_at_work (state_of c.self.inside) c.args.self.now c.receive_pdu.new.self c.self.inside.esis c.self.inside.moment c.self.view_is c.requires.at_work c.self.invariant c.self.invariant.moment c.receive_pdu.ensures.config

pub invariant_of-self-2 : goal.invariant_of-self-2
invariant_of-self-2 c = sound_at_work (state_of c.self.inside) c.args.self.now c.receive_pdu.new.self c.self.inside.esis c.self.inside.moment c.self.view_is c.requires.at_work c.self.invariant c.self.invariant.moment c.receive_pdu.ensures.config

pub returns-in_err-receive_pdu-clause-stands : goal.returns-in_err-receive_pdu-clause-stands
returns-in_err-receive_pdu-clause-stands c = on_ok_refused c.from_residual.result _ c.from_residual.ensures.0

pub returns-in_err-receive_pdu-clause-outputs : goal.returns-in_err-receive_pdu-clause-outputs
returns-in_err-receive_pdu-clause-outputs c = on_ok_refused c.from_residual.result _ c.from_residual.ensures.0

pub returns-in_err-receive_pdu-clause-none : goal.returns-in_err-receive_pdu-clause-none
returns-in_err-receive_pdu-clause-none c = on_err c.from_residual.result refl

pub returns-in_err-receive_pdu-clause-moment : goal.returns-in_err-receive_pdu-clause-moment
returns-in_err-receive_pdu-clause-moment c = ap (λ (e : SystemEntityState). e.moment) c.self.view_is

pub returns-in_err-receive_pdu-clause-spent : goal.returns-in_err-receive_pdu-clause-spent
returns-in_err-receive_pdu-clause-spent c = ap (λ (e : SystemEntityState). e.spent) c.self.view_is

pub returns-in_err-receive_pdu-clause-congested : goal.returns-in_err-receive_pdu-clause-congested
returns-in_err-receive_pdu-clause-congested c = ap (λ (e : SystemEntityState). e.congested) c.self.view_is

pub returns-in_err-receive_pdu-clause-config : goal.returns-in_err-receive_pdu-clause-config
returns-in_err-receive_pdu-clause-config c = c.receive_pdu.ensures.config ∙ ap (λ (e : SystemEntityState). e.local.configuration) c.self.view_is

pub returns-in_err-give_out-clause-stands : goal.returns-in_err-give_out-clause-stands
returns-in_err-give_out-clause-stands c = on_ok_refused c.from_residual-in_err-give_out.result _ c.from_residual-in_err-give_out.ensures.0

pub returns-in_err-give_out-clause-outputs : goal.returns-in_err-give_out-clause-outputs
returns-in_err-give_out-clause-outputs c = on_ok_refused c.from_residual-in_err-give_out.result _ c.from_residual-in_err-give_out.ensures.0

pub returns-in_err-give_out-clause-none : goal.returns-in_err-give_out-clause-none
returns-in_err-give_out-clause-none c = on_err c.from_residual-in_err-give_out.result c.in_err-give_out.ensures.none

pub returns-in_err-give_out-clause-moment : goal.returns-in_err-give_out-clause-moment
returns-in_err-give_out-clause-moment c = ap (λ (e : SystemEntityState). e.moment) c.self.view_is

pub returns-in_err-give_out-clause-spent : goal.returns-in_err-give_out-clause-spent
returns-in_err-give_out-clause-spent c = ap (λ (e : SystemEntityState). e.spent) c.self.view_is

pub returns-in_err-give_out-clause-congested : goal.returns-in_err-give_out-clause-congested
returns-in_err-give_out-clause-congested c = ap (λ (e : SystemEntityState). e.congested) c.self.view_is

pub returns-in_err-give_out-clause-config : goal.returns-in_err-give_out-clause-config
returns-in_err-give_out-clause-config c = c.receive_pdu.ensures.config ∙ ap (λ (e : SystemEntityState). e.local.configuration) c.self.view_is

pub returns-clause-none : goal.returns-clause-none
returns-clause-none c = tt

pub returns-clause-moment : goal.returns-clause-moment
returns-clause-moment c = ap (λ (e : SystemEntityState). e.moment) c.self.view_is

pub returns-clause-spent : goal.returns-clause-spent
returns-clause-spent c = ap (λ (e : SystemEntityState). e.spent) c.self.view_is

pub returns-clause-congested : goal.returns-clause-congested
returns-clause-congested c = ap (λ (e : SystemEntityState). e.congested) c.self.view_is

pub returns-clause-config : goal.returns-clause-config
returns-clause-config c = c.receive_pdu.ensures.config ∙ ap (λ (e : SystemEntityState). e.local.configuration) c.self.view_is

pub returns-in-Err-clause-moment : goal.returns-in-Err-clause-moment
returns-in-Err-clause-moment c = ap (λ (e : SystemEntityState). e.moment) c.self.view_is

pub returns-in-Err-clause-spent : goal.returns-in-Err-clause-spent
returns-in-Err-clause-spent c = ap (λ (e : SystemEntityState). e.spent) c.self.view_is

pub returns-in-Err-clause-congested : goal.returns-in-Err-clause-congested
returns-in-Err-clause-congested c = ap (λ (e : SystemEntityState). e.congested) c.self.view_is

pub returns-in-Err-clause-config : goal.returns-in-Err-clause-config
returns-in-Err-clause-config c = c.receive_pdu.ensures.config ∙ ap (λ (e : SystemEntityState). e.local.configuration) c.self.view_is
