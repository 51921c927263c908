-- An ES-IS PDU is heard, and what isn't one is noted.
use Rattle.std.proofs.Common.{◌≡◌, ◌∙◌, refl, sym, ap, subst, ℕ, Bool, List, None}
use Rattle.clnp_machine.specs.PduHeader.Rules.{octet}
use Rattle.clnp_machine.specs.EsisPdus.Value.{EsisValue}
use Rattle.clnp_machine.specs.EsisPdus.View.{pdu_value}
use Rattle.clnp_machine.specs.Content.{Content, Esis, IsCarried, frame_of}
use Rattle.clnp_machine.specs.Esis.{esis_comes}
use Rattle.clnp_machine.specs.Given.{Appends}
use Rattle.clnp_machine.specs.Step.{content_comes}
use Rattle.clnp_machine.specs.System.{Effect, SystemState}
use Rattle.clnp_systems.specs.Seen.{state_of}
use Rattle.clnp_systems.specs.EntityState.{SystemEntityState}
use Rattle.clnp_systems.specs.EntityStands.{PartsStand}
use Rattle.clnp_systems.proofs.Arrivals.{frame_unheard, value_found}
use Rattle.clnp_systems.proofs.EntityParts.{parts_after_hello}
use Rattle.std.proofs.lemmas.Result.{IfOk-from_err}
use Rattle.clnp_systems.proofs.Working.{on_err, sound_at_work}
use Rattle.clnp_systems.proofs.entity.SystemEntity.other_comes.Goals as goal
use Rattle.clnp_systems.proofs.Outputs.{appends_note}

pub returns-in_ok-give_note-in-Err-clause-stands : goal.returns-in_ok-give_note-in-Err-clause-stands
returns-in_ok-give_note-in-Err-clause-stands c = λ s group content h carried frame.
    subst (λ (e : Effect). PartsStand c.args.self.now e.after)
    (frame_unheard c.no_frame_is_of_both_protocols.ensures.packet s c.args.neighbour group c.octets_of.result.now c.in-Err.refusal
    c.in-Err.ensures.judged c.in-Err.ensures.none (λ at. c.requires.other (ap (λ (f : List ℕ). octet f 1) (sym c.octets_of.ensures) ∙ at))
    content carried (frame ∙ sym c.octets_of.ensures)) h

pub returns-in_ok-give_note-in-Err-clause-outputs : goal.returns-in_ok-give_note-in-Err-clause-outputs
returns-in_ok-give_note-in-Err-clause-outputs c = λ s group content h carried frame.
    subst (λ (e : Effect). Appends s.moment None c.args.out.now.items c.give_note.new.out.items e.outputs)
    (frame_unheard c.no_frame_is_of_both_protocols.ensures.packet s c.args.neighbour group c.octets_of.result.now c.in-Err.refusal
    c.in-Err.ensures.judged c.in-Err.ensures.none (λ at. c.requires.other (ap (λ (f : List ℕ). octet f 1) (sym c.octets_of.ensures) ∙ at))
    content carried (frame ∙ sym c.octets_of.ensures))
    (appends_note s.moment None c.args.out.now.items c.give_note.new.out.items _ _ c.in_ok-give_note-in-Err.ensures.given c.unheard.ensures)

-- an ES-IS PDU is heard
module _ (c : goal.In_ok-hear-in-Ok) (s : SystemState) (group : Bool) (content : Content) (h : PartsStand c.args.self.now s)
    (carried : IsCarried content) (frame : frame_of content ≡ c.args.frame.now) where
  abbrev v : EsisValue
  v = pdu_value c.in-Ok.pdu

  parts : PartsStand (state_of c.self.inside) s
  parts = subst (λ (e : SystemEntityState). PartsStand e s) (sym c.self.view_is) h

  configuration : s.configuration ≡ c.config-config.result.now
  configuration = sym parts.local.configuration ∙ sym c.config-config.ensures

  of_value : (P : Content → Type 0) → ((following : List ℕ) → P (Esis v following)) → P content
  of_value P for_value =
      value_found c.a_frame_carries_one_esis_value.ensures c.no_frame_is_of_both_protocols.ensures.packet P c.octets_of.result.now v c.in-Ok.pdu.rest.now
      c.in-Ok.ensures.found (λ at. c.requires.other (ap (λ (f : List ℕ). octet f 1) (sym c.octets_of.ensures) ∙ at)) content carried
      (frame ∙ sym c.octets_of.ensures) for_value

  heard : PartsStand (record (state_of c.self.inside) { esis = c.hear.new.self }) (content_comes s c.args.neighbour group content).after
  heard =
      of_value (λ (came : Content). PartsStand (record (state_of c.self.inside) { esis = c.hear.new.self }) (content_comes s c.args.neighbour group came).after)
      (λ following. parts_after_hello s.moment (state_of c.self.inside) c.hear.new.self s (esis_comes s c.args.neighbour v)
      (c.hellos_leave_the_rest.ensures.comes s c.args.neighbour v)
      (c.in_ok-hear-in-Ok.ensures.stands s parts.esis configuration (sym parts.moment)) parts)

  given : Appends s.moment None c.args.out.now.items c.hear.new.out.items (content_comes s c.args.neighbour group content).outputs
  given =
      of_value (λ (came : Content). Appends s.moment None c.args.out.now.items c.hear.new.out.items (content_comes s c.args.neighbour group came).outputs)
      (λ following. subst (λ (m : ℕ). Appends m None c.args.out.now.items c.hear.new.out.items (esis_comes s c.args.neighbour v).outputs) parts.moment
      (c.in_ok-hear-in-Ok.ensures.outputs s parts.esis configuration (sym parts.moment)))

pub returns-in_ok-hear-in-Ok-clause-stands : goal.returns-in_ok-hear-in-Ok-clause-stands
returns-in_ok-hear-in-Ok-clause-stands c = λ s group content h carried frame. heard c s group content h carried frame

pub returns-in_ok-hear-in-Ok-clause-outputs : goal.returns-in_ok-hear-in-Ok-clause-outputs
returns-in_ok-hear-in-Ok-clause-outputs c = λ s group content h carried frame. given c s group content h carried frame

pub returns-in_err-hear-in-Ok-clause-stands : goal.returns-in_err-hear-in-Ok-clause-stands
returns-in_err-hear-in-Ok-clause-stands c = IfOk-from_err c.from_residual.result _ c.from_residual.ensures.0

pub returns-in_err-hear-in-Ok-clause-outputs : goal.returns-in_err-hear-in-Ok-clause-outputs
returns-in_err-hear-in-Ok-clause-outputs c = IfOk-from_err c.from_residual.result _ c.from_residual.ensures.0

pub returns-in_err-hear-in-Ok-clause-none : goal.returns-in_err-hear-in-Ok-clause-none
returns-in_err-hear-in-Ok-clause-none c = on_err c.from_residual.result c.in_err-hear-in-Ok.ensures.none

pub returns-in_err-hear-in-Ok-clause-spent : goal.returns-in_err-hear-in-Ok-clause-spent
returns-in_err-hear-in-Ok-clause-spent c = ap (λ (e : SystemEntityState). e.spent) c.self.view_is

pub returns-in_err-give_note-in-Err-clause-stands : goal.returns-in_err-give_note-in-Err-clause-stands
returns-in_err-give_note-in-Err-clause-stands c = IfOk-from_err c.from_residual-in_err-give_note-in-Err.result _ c.from_residual-in_err-give_note-in-Err.ensures.0

pub returns-in_err-give_note-in-Err-clause-outputs : goal.returns-in_err-give_note-in-Err-clause-outputs
returns-in_err-give_note-in-Err-clause-outputs c = IfOk-from_err c.from_residual-in_err-give_note-in-Err.result _ c.from_residual-in_err-give_note-in-Err.ensures.0

pub returns-in_err-give_note-in-Err-clause-none : goal.returns-in_err-give_note-in-Err-clause-none
returns-in_err-give_note-in-Err-clause-none c = on_err c.from_residual-in_err-give_note-in-Err.result c.in_err-give_note-in-Err.ensures.none

pub invariant_of-self : goal.invariant_of-self
invariant_of-self c = sound_at_work (state_of c.self.inside) c.args.self.now c.self.inside.local c.hear.new.self c.self.inside.moment c.self.view_is c.requires.at_work c.self.invariant c.self.invariant.moment refl

pub returns-in_ok-hear-in-Ok-clause-config : goal.returns-in_ok-hear-in-Ok-clause-config
returns-in_ok-hear-in-Ok-clause-config c = ap (λ (e : SystemEntityState). e.local.configuration) c.self.view_is

pub hear-requires : goal.hear-requires
hear-requires c = record { moment = c.self.invariant.moment; timer = c.in-Ok.ensures.suggested }
