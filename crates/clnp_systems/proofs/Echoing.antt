-- Echo requests answered, and replies taken for answers.
use Rattle.std.proofs.Common.{◌≡◌, ◌∙◌, sym, ap, refl, subst, ℕ, false, List, Option, Some, None, length}
use Rattle.std.specs.List.{find}
use Rattle.clnp_machine.specs.ClnpPlan.declared.ask.Ask.{Ask}
use Rattle.clnp_machine.specs.ClnpPlan.declared.ask.SendRefusal.{SendRefusal}
use Rattle.clnp_machine.specs.ClnpPlan.declared.ask.SendRefusal.TheVariants as send_refusal
use Rattle.clnp_machine.specs.ClnpPlan.declared.note.Note.{Note}
use Rattle.clnp_machine.specs.ClnpPlan.declared.note.Note.TheVariants as note
use Rattle.clnp_machine.specs.ClnpOptions.Parameter.{Parameter}
use Rattle.clnp_machine.specs.Pdus.declared.pdu_header.kind.Kind.{Kind}
use Rattle.clnp_machine.specs.Pdus.declared.pdu_header.kind.Kind.TheVariants.{Dt, Er, Erq, Erp}
use Rattle.clnp_machine.specs.Unit.{DataUnit}
use Rattle.clnp_machine.specs.System.{SystemState}
use Rattle.clnp_machine.specs.Local.{echo_ask, hand_up, is_answer, is_replied, make, refusal, replies, takes_reply, tells, unit_of, unless_refused, without_answered}
use Rattle.clnp_systems.specs.declared.pending.Request.{Request as Noted}
use Rattle.clnp_systems.specs.declared.purpose.Purpose.TheVariants.{Data, Report, Request, Reply}
use Rattle.clnp_systems.specs.LocalState.{EntityState}
use Rattle.clnp_systems.specs.Local.{AreRequests, IsWhy, Stands, refusal_note}
use Rattle.clnp_systems.specs.Receipt.{purpose_of}
use Rattle.clnp_systems.proofs.Requests.{none_left}

-- an entity with other requests stands for a system with other requests
stands_pending : (local : EntityState) (noted : List Noted) (s : SystemState) (pending : List DataUnit) → Stands local s → AreRequests noted pending
    → Stands (record local { pending = noted }) (record s { pending = pending })
stands_pending local noted s pending stands are = record {
  configuration = stands.configuration;
  limits = stands.limits;
  count = stands.count;
  identifiers = stands.identifiers;
  buffers = stands.buffers;
  table = stands.table;
  shown = stands.shown;
  packets = stands.packets;
  pending = are;
}

-- the entity from whose requests the answered one is taken out
pub stands_replied : (local : EntityState) (noted : List Noted) (s : SystemState) (source destination octets : List ℕ) → Stands local s
    → AreRequests noted (without_answered (is_answer source destination octets) s.pending)
    → Stands (record local { pending = noted }) (is_replied s source destination octets).after
stands_replied local noted s source destination octets stands are = by (find (is_answer source destination octets) s.pending) refl
  where
    by : (found : Option DataUnit) → find (is_answer source destination octets) s.pending ≡ found
        → Stands (record local { pending = noted }) (takes_reply s source destination octets found).after
    by None none = stands_pending local noted s s.pending stands (subst (AreRequests noted) (none_left (is_answer source destination octets) s.pending none) are)
    by (Some request) some = stands_pending local noted s (without_answered (is_answer source destination octets) s.pending) stands are

-- what is made is the reply
pub reply_is : (s : SystemState) (source destination octets : List ℕ) (ask : Ask) → ask ≡ echo_ask s destination source (length octets) false
    → make s Erp destination source octets ask ≡ replies s source destination octets
reply_is s source destination octets ask asked = ap (make s Erp destination source octets) asked

pub says_why : (e : SendRefusal) (note : Note) (answer : Option Note) → refusal_note e ≡ Some note → IsWhy e answer → answer ≡ Some note
says_why send_refusal.NotMine note answer said why = why ∙ said
says_why (send_refusal.TooLong octets) note answer said why = why ∙ said
says_why (send_refusal.IdsBusy used) note answer said why = why ∙ said
says_why (send_refusal.Quiet until) note answer said why = why ∙ said
says_why send_refusal.NoMemory note answer said why = absurd (cc)

-- a reply that is refused leaves its note
pub refused_reply : (s : SystemState) (source destination octets : List ℕ) (ask : Ask) (e : SendRefusal) (note : Note)
    → ask ≡ echo_ask s destination source (length octets) false → refusal_note e ≡ Some note
    → IsWhy e (refusal s (unit_of s Erp destination source octets ask)) → tells s note ≡ replies s source destination octets
refused_reply s source destination octets ask e note asked said why =
    sym (ap (λ (r : Option Note). unless_refused r s (unit_of s Erp destination source octets ask)) (says_why e note _ said why))
    ∙ reply_is s source destination octets ask asked

-- what is handed up of a unit that is to be answered, and of one that answers
pub handed_request : (s : SystemState) (kind : Kind) (source destination octets : List ℕ) (options : List Parameter) → Request ≡ purpose_of kind options
    → replies s source destination octets ≡ hand_up s kind source destination octets options
handed_request s Dt source destination octets options is = absurd (cc)
handed_request s Er source destination octets options is = absurd (cc)
handed_request s Erq source destination octets options is = refl
handed_request s Erp source destination octets options is = absurd (cc)

pub handed_reply : (s : SystemState) (kind : Kind) (source destination octets : List ℕ) (options : List Parameter) → Reply ≡ purpose_of kind options
    → is_replied s source destination octets ≡ hand_up s kind source destination octets options
handed_reply s Dt source destination octets options is = absurd (cc)
handed_reply s Er source destination octets options is = absurd (cc)
handed_reply s Erq source destination octets options is = absurd (cc)
handed_reply s Erp source destination octets options is = refl

-- what is noted of one that is neither
pub handed_data : (s : SystemState) (kind : Kind) (source destination octets : List ℕ) (options : List Parameter) → Data ≡ purpose_of kind options
    → tells s (note.Got source destination octets) ≡ hand_up s kind source destination octets options
handed_data s Dt source destination octets options is = refl
handed_data s Er source destination octets options is = absurd (cc)
handed_data s Erq source destination octets options is = absurd (cc)
handed_data s Erp source destination octets options is = absurd (cc)

pub handed_report : (s : SystemState) (kind : Kind) (source destination octets : List ℕ) (options : List Parameter) (reason place : ℕ)
    → Report reason place ≡ purpose_of kind options
    → tells s (note.Report source destination reason place octets) ≡ hand_up s kind source destination octets options
handed_report s Dt source destination octets options reason place is = absurd (cc)
handed_report s Er source destination octets options reason place is = cc
handed_report s Erq source destination octets options reason place is = absurd (cc)
handed_report s Erp source destination octets options reason place is = absurd (cc)
