-- What was sent stays sent, a last entry that sends counts, units stay sound as the past grows, and requests stay pending where
-- nothing was restarted.
use Rattle.clnp_machine.proofs.ClnpBase.Lists.{AllByRecursion-implies, AllByRecursion-push}
use Rattle.std.proofs.Common.{ℕ, List, [], ◌∷◌, ◌++◌, inl, inr, Contains}
use Rattle.std.specs.List.{AllByRecursion}
use Rattle.std.proofs.lemmas.List.Elements.{Contains-append_left}
use Rattle.clnp_machine.specs.Pdus.declared.pdu_header.kind.Kind.{Kind}
use Rattle.clnp_machine.specs.Pdus.declared.pdu_header.kind.Kind.TheVariants.{Dt, Er, Erq, Erp}
use Rattle.clnp_machine.specs.ClnpPlan.Journal.{Line}
use Rattle.clnp_machine.specs.ScenarioPlan.Plan.{Plan}
use Rattle.clnp_machine.specs.Unit.{DataUnit}
use Rattle.clnp_machine.specs.ClnpNetwork.Run.{Entry}
use Rattle.clnp_machine.specs.ClnpNetwork.Safe.{IsSend, NoRefusal, RequestedSinceRestart, SaysNoRestart, SaysRequested, WasSent}
use Rattle.clnp_safety.specs.Invariant.{IsMadeOn, IsPending, UnitIsSound, UnitsAreSound}

sent_before : (plan : Plan) (past more : List Entry) (from to octets : List ℕ) → WasSent plan past from to octets → WasSent plan (past ++ more) from to octets
sent_before plan [] more from to octets h = absurd h
sent_before plan (entry ∷ past) more from to octets h =
    elim h [ inl now ↦ inl now | inr before ↦ inr (sent_before plan past more from to octets before) ]

pub sent_last : (plan : Plan) (past : List Entry) (entry : Entry) (from to octets : List ℕ) → IsSend plan entry.move from to octets
    → NoRefusal entry.lines → WasSent plan (past ++ entry ∷ []) from to octets
sent_last plan [] entry from to octets sends made = inl (sends, made)
sent_last plan (first ∷ past) entry from to octets sends made = inr (sent_last plan past entry from to octets sends made)

founded_before : (plan : Plan) (past more : List Entry) (units : List DataUnit) (kind : Kind) (u : DataUnit) → IsMadeOn plan past units kind u
    → IsMadeOn plan (past ++ more) units kind u
founded_before plan past more units Dt u h = sent_before plan past more u.source u.destination u.octets h
founded_before plan past more units Er u h = h
founded_before plan past more units Erq u h = h
founded_before plan past more units Erp u h = h

unit_later : (plan : Plan) (past more : List Entry) (units : List DataUnit) (u : DataUnit) → UnitIsSound plan past units u
    → UnitIsSound plan (past ++ more) units u
unit_later plan past more units u h = record {
  founded = founded_before plan past more units u.kind u h.founded;
  place = h.place;
  maker = h.maker;
  owner = h.owner;
  first_position = h.first_position;
  total = h.total;
}

-- units stay sound as the past grows
pub units_later : (plan : Plan) (past more : List Entry) (units : List DataUnit) → UnitsAreSound plan past units → UnitsAreSound plan (past ++ more) units
units_later plan past more units h = record {
  each = AllByRecursion-implies (UnitIsSound plan past units) (UnitIsSound plan (past ++ more) units) (unit_later plan past more units) units h.each;
  rest = h.rest;
}

-- Requests.

module _ (name : List ℕ) (number : ℕ) (from to : List ℕ) where
  still_requested : (past : List Entry) (entry : Entry) → AllByRecursion (SaysNoRestart name) entry.lines → RequestedSinceRestart past name number from to
      → RequestedSinceRestart (past ++ entry ∷ []) name number from to
  still_requested [] entry none h = absurd h
  still_requested (first ∷ past) entry none h =
      elim h [
        | inl here ↦ inl (here.0, AllByRecursion-push (λ (other : Entry). AllByRecursion (SaysNoRestart name) other.lines) past entry here.1 none)
        | inr later ↦ inr (still_requested past entry none later)
      ]

  pub requested_last : (past : List Entry) (entry : Entry) (line : Line) → Contains entry.lines line → SaysRequested name number from to line
      → RequestedSinceRestart (past ++ entry ∷ []) name number from to
  requested_last [] entry line there says = inl ((line, there, says), tt)
  requested_last (first ∷ past) entry line there says = inr (requested_last past entry line there says)

pub pending_later : (past : List Entry) (entry : Entry) (units more : List DataUnit) (place : ℕ) (name : List ℕ)
    → AllByRecursion (SaysNoRestart name) entry.lines → (request : DataUnit) → IsPending past units place name request
    → IsPending (past ++ entry ∷ []) (units ++ more) place name request
pending_later past entry units more place name none request h = record {
  made = Contains-append_left units more request h.made;
  maker = h.maker;
  kind = h.kind;
  since = still_requested name request.number request.source request.destination past entry none h.since;
}
