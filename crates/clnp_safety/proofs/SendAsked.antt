-- The unit that is asked for, where it isn't refused.
use Rattle.std.proofs.Common.{◌≡◌, ℕ, Bool, true, false, inl, inr, List, [], ◌∷◌, None, Contains, refl, ap, subst, bytes_eq}
use Rattle.std.proofs.lemmas.List.Folds.{Any-from_list_any}
use Rattle.clnp_machine.proofs.ClnpBase.SameOctets.{same_from}
use Rattle.clnp_machine.specs.Pdus.declared.pdu_header.kind.Kind.{Kind}
use Rattle.clnp_machine.specs.ClnpPlan.declared.ask.Ask.{Ask}
use Rattle.clnp_machine.specs.Identifiers.{not_drawn}
use Rattle.clnp_machine.specs.Unit.{DataUnit, DeclaredAt}
use Rattle.clnp_machine.specs.System.{SystemState}
use Rattle.clnp_machine.specs.Local.{is_own, identifier_for, unit_of, not_drawn_note, identifier_refusal, refusal, with_use}
use Rattle.clnp_machine.specs.ScenarioPlan.Plan.{Plan}
use Rattle.clnp_safety.specs.Invariant.{SystemIsSound}
use Rattle.clnp_safety.specs.StepLaws.{StepLaws}
use Rattle.clnp_safety.proofs.Draws.{Draws}
use Rattle.clnp_safety.proofs.SendUnits.{IsNew}
use Rattle.clnp_machine.proofs.ClnpBase.Choices.{none_mapped}

-- an address of a system is among those of its declaration
pub own_address : (s : SystemState) (address : List ℕ) → is_own s address ≡ true → Contains s.configuration.addresses address
own_address s address own =
    let found = Any-from_list_any (λ other. bytes_eq other address) s.configuration.addresses own in
    let same : found.1 ≡ address = same_from found.1 address found.4 in
    subst (Contains s.configuration.addresses) same (found.0, found.2, found.3)

-- a unit that is made where it isn't refused draws the next identifier, as it may be, or none
pub made_draws : (s : SystemState) (u : DataUnit) (segment : Bool) → u.identifier ≡ identifier_for s segment → identifier_refusal s (identifier_for s segment) ≡ None
    → Draws s.moment s.identifiers (with_use s u.identifier) (u ∷ [])
made_draws s u false is none = inl (record { identifiers = ap (with_use s) is; whole = (is, tt) })
made_draws s u true is none =
    inr (record {
      made = u;
      only = refl;
      identified = is;
      idle = none_mapped not_drawn_note (not_drawn s.moment s.identifiers) none;
      identifiers = ap (with_use s) is;
    })

module _ (laws : StepLaws) (plan : Plan) (units : List DataUnit) (place : ℕ) (s : SystemState) (kind : Kind) (from to octets : List ℕ) (ask : Ask) where
  -- it is the system's next one
  pub asked_is_new : refusal s (unit_of s kind from to octets ask) ≡ None → SystemIsSound plan units place s
      → IsNew place s (unit_of s kind from to octets ask)
  asked_is_new none h =
      let u : DataUnit = unit_of s kind from to octets ask in
      record {
        made = record { maker = ap DeclaredAt h.stands_at; made = refl };
        draws = made_draws s u ask.segment refl ((laws.deeds.allowed s u).0 none).identifier;
      }
