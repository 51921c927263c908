-- What a network of the code stands for after a frame came from outside.
use Rattle.std.proofs.Common.{◌≡◌, ◌≤◌, ◌+◌, ◌∙◌, ℕ, cond, Bool, true, false, List, [], ◌∷◌, length, Option, None, Some, refl, sym, ap, subst}
use Rattle.std.specs.Prelude.{is_none, slice_get}
use Rattle.std.proofs.lemmas.Option.{slice_get_past}
use Rattle.hex.specs.Hex.{IsBytes}
use Rattle.clnp_machine.specs.Pdus.declared.nsap.target.Target.{Target}
use Rattle.clnp_machine.specs.EsisPdus.Reading as esis_reading
use Rattle.clnp_machine.specs.EsisPdus.Rules.{why_refused}
use Rattle.clnp_machine.specs.PduHeader.Reading.{rest_of}
use Rattle.clnp_machine.specs.ClnpPlan.Journal.{Injected, Line}
use Rattle.clnp_machine.specs.Content.{Esis, IsCarried, Labelled, Unlabelled, content_of, esis_value_in, frame_of, is_accepted, packet_from_outside, value_in}
use Rattle.clnp_machine.specs.Unit.{Outside}
use Rattle.clnp_machine.specs.ClnpNetwork.LabelledNetwork as network
use Rattle.clnp_machine.specs.ScenarioPlan.Plan.{Subnetwork}
use Rattle.clnp_program.specs.ClnpWorld.Lines.{Gains, Taken}
use Rattle.clnp_program.specs.ClnpWorld.Seen.{frame_copy, origin_of}
use Rattle.clnp_program.specs.ClnpWorld.Stands.{IsMadeWithUnit}
use Rattle.clnp_program.specs.ClnpWorld.Parts.{Follows, Holds, PutsCopies}
use Rattle.clnp_program.specs.declared.clnp_world.network.Network.{Network}
use Rattle.clnp_program.specs.declared.clnp_world.copy.FrameCopy.{FrameCopy}
use Rattle.clnp_program.proofs.ClnpWorld.PutSteps.{counted, shows_more}
use Rattle.clnp_program.proofs.ClnpWorld.GiveSteps.{follows_nothing}

-- a unit from outside is made at the moment at which its frame comes
born_outside : (number moment : ℕ) (octets : List ℕ) → IsMadeWithUnit (origin_of Outside moment) (content_of number moment octets)
born_outside number moment octets = by_kind (is_accepted octets) (is_none (why_refused octets))
  where
    by_kind : (clnp esis : Bool) → IsMadeWithUnit (origin_of Outside moment)
        (cond clnp (Labelled (packet_from_outside number moment (value_in octets)) (rest_of octets))
        (cond esis (Esis (esis_value_in octets) (esis_reading.rest_of octets)) (Unlabelled octets)))
    by_kind true esis = refl
    by_kind false true = tt
    by_kind false false = tt

-- the copy of a frame from outside, as the code has it
abbrev pub outside_copy : (subnet : ℕ) (sender : List ℕ) → Target → (birth : ℕ) (octets : List ℕ) → FrameCopy
outside_copy subnet sender target birth octets =
    record { subnet = subnet; sender = sender; target = target; origin = record { maker = None; birth = birth }; frame = octets }

-- no subnetwork was declared there
pub injects_none : (code : Network) (lines : Taken) (subnets : List Subnetwork) (subnet : ℕ) (sender : List ℕ) (target : Target) (octets : List ℕ)
    → length subnets ≤ subnet → (model : network.LabelledNetwork) → Holds code model → Follows code lines lines (network.injects subnets model subnet sender target octets)
injects_none code lines subnets subnet sender target octets past model h =
    subst (λ (d : Option Subnetwork). Follows code lines lines (network.injects_on model subnet d sender target octets)) (sym (slice_get_past subnets subnet past))
    (follows_nothing code lines model h)

-- the frame is the next copy on a subnetwork that was declared
pub injects_there : (spells : (number moment : ℕ) (octets : List ℕ) → IsBytes octets → frame_of (content_of number moment octets) ≡ octets)
    → (carries : (number moment : ℕ) (octets : List ℕ) → IsBytes octets → IsCarried (content_of number moment octets))
    → (old code : Network) (before after : Taken) (subnets : List Subnetwork) (subnet number : ℕ) (declared : Subnetwork)
    → (sender : List ℕ) (target : Target) (octets : List ℕ) → slice_get subnets subnet ≡ Some declared → IsBytes octets → length octets ≤ 70000
    → number ≡ length old.copies.items
    → Gains before after (Injected old.clock (number + 1) declared.name sender target ∷ [])
    → PutsCopies old code (outside_copy subnet sender target old.clock octets ∷ [])
    → code ≡ record old { copies = code.copies; weight = code.weight }
    → (model : network.LabelledNetwork) → Holds old model → Follows code before after (network.injects subnets model subnet sender target octets)
injects_there spells carries old code before after subnets subnet number declared sender target octets there bytes few n line put others model h =
    let next = length model.copies + 1 in
    let made = network.copy_from_outside next model.clock subnet sender target octets in
    let seen : outside_copy subnet sender target old.clock octets ≡ frame_copy made
    = ap (λ (t : ℕ). outside_copy subnet sender target t octets) h.shows.clock
    ∙ ap (λ (o : List ℕ). outside_copy subnet sender target model.clock o) (sym (spells next model.clock octets bytes)) in
    let number_is : number + 1 ≡ next = ap (λ (k : ℕ). k + 1) (n ∙ counted old model h.shows) in
    subst (λ (d : Option Subnetwork). Follows code before after (network.injects_on model subnet d sender target octets)) (sym there)
    record {
      holds = record {
        shows = shows_more old code (made ∷ []) (outside_copy subnet sender target old.clock octets ∷ []) (ap (λ (c : FrameCopy). c ∷ []) seen)
            (carries next model.clock octets bytes, tt) (born_outside next model.clock octets, tt) (few, tt) put others model h.shows;
        behind = h.behind;
      };
      lines = subst (λ (l : Line). Gains before after (l ∷ []))
          (ap (λ (t : ℕ). Injected t (number + 1) declared.name sender target) h.shows.clock
          ∙ ap (λ (k : ℕ). Injected model.clock k declared.name sender target) number_is) line;
    }
