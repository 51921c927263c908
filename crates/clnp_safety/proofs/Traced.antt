-- Each copy was made by who made what it carries; and what was made outside is traced to an event that brought it.
use Rattle.clnp_machine.proofs.ClnpBase.Lists.{AllByRecursion-append, AllByRecursion-contains, AllByRecursion-implies, AllByRecursion-slice_get}
use Rattle.std.proofs.Common.{◌≡◌, ◌∙◌, refl, sym, ap, subst, ℕ, ◌+◌, inl, inr, Bool, true, false, List, [], ◌∷◌, ◌++◌, length, Option, None, Some, Contains}
use Rattle.std.specs.Prelude.{if◌then◌else◌, is_none, slice_get}
use Rattle.std.specs.List.{AllByRecursion}
use Rattle.std.proofs.lemmas.List.Elements.{Contains-append_left, Contains-push}
use Rattle.clnp_machine.specs.Pdus.declared.nsap.target.Target.{Target}
use Rattle.clnp_machine.specs.PduHeader.Reading.{rest_of}
use Rattle.clnp_machine.specs.EsisPdus.Reading as esis_reading
use Rattle.clnp_machine.specs.EsisPdus.Rules.{why_refused}
use Rattle.clnp_machine.specs.ClnpPlan.declared.config.PortConfig.{PortConfig}
use Rattle.clnp_machine.specs.ScenarioPlan.Plan.{Plan}
use Rattle.clnp_machine.specs.ClnpPlan.declared.scenario_plan.event.Event.{Event}
use Rattle.clnp_machine.specs.ClnpPlan.declared.scenario_plan.event.Event.TheVariants.{Send, Echo, Inject, Mtu, Port}
use Rattle.clnp_machine.specs.ClnpPlan.declared.scenario_plan.event.Move.{Move}
use Rattle.clnp_machine.specs.Unit.{DataUnit, Maker, DeclaredAt, Outside, Packet}
use Rattle.clnp_machine.specs.Content.{Content, Labelled, Esis, Unlabelled, esis_value_in, is_accepted, packet_from_outside, value_in}
use Rattle.clnp_machine.specs.System.{SystemState, Input, FrameComes, Output, Transmits, SendsEsis, Notes, Effect}
use Rattle.clnp_machine.specs.Step.{step}
use Rattle.clnp_machine.specs.EveryStep.{GoesOnOf, IsFresh, SendsRangesOrGoesOn, moment_after}
use Rattle.clnp_machine.proofs.Kept.{all_contained}
use Rattle.clnp_machine.specs.ClnpNetwork.LabelledNetwork.{LabelledNetwork, Copy, copy_from, copy_from_outside, first_port, first_world, frame_to, is_group, put_out, sends_frame, takes_effect, with_effect}
use Rattle.clnp_machine.specs.ClnpNetwork.Run.{world_after}
use Rattle.clnp_safety.specs.Outside.{CarriesOf, EachHasItsMaker, HasItsMaker, IsBrought, IsMadeBy, IsTraced}
use Rattle.clnp_safety.specs.StepLaws.{StepLaws}
use Rattle.clnp_safety.proofs.EveryMove.{Follows, GivesOnly, IsOfNow, keeps-moves}
use Rattle.clnp_safety.proofs.Grows.{effect_copies}
use Rattle.clnp_safety.proofs.Lines.{AnyLine, any_line_changes, any_line_is_fine}
use Rattle.clnp_safety.proofs.Steps.{Keeps, keeps-put_all_out, with_outside}

-- what comes from outside was made outside
pub outside_makes : (number moment : ℕ) (octets : List ℕ) (accepted unrefused : Bool)
    → IsMadeBy Outside
    (if accepted then Labelled (packet_from_outside number moment (value_in octets)) (rest_of octets)
    else if unrefused then Esis (esis_value_in octets) (esis_reading.rest_of octets) else Unlabelled octets)
outside_makes number moment octets true unrefused = refl
outside_makes number moment octets false true = tt
outside_makes number moment octets false false = refl

module _ (plan : Plan) where
  -- Copies stay.

  traced_later : (copies more : List Copy) (content : Content) → IsTraced plan copies content → IsTraced plan (copies ++ more) content
  traced_later copies more content h = record {
    first = h.first;
    there = Contains-append_left copies more h.first h.there;
    outside = h.outside;
    carries = h.carries;
  }

  maker_later : (copies more : List Copy) (copy : Copy) → HasItsMaker plan copies copy → HasItsMaker plan (copies ++ more) copy
  maker_later copies more copy h = record { maker = h.maker; outside = λ outside. traced_later copies more copy.content (h.outside outside) }

  makers_later : (copies more some : List Copy) → AllByRecursion (HasItsMaker plan copies) some → AllByRecursion (HasItsMaker plan (copies ++ more)) some
  makers_later copies more some h =
      AllByRecursion-implies (HasItsMaker plan copies) (HasItsMaker plan (copies ++ more)) (maker_later copies more) some h

  -- What comes.

  abbrev ComesTraced : LabelledNetwork → Input → Type 0
  ComesTraced w (FrameComes port sender to_group (Labelled came following)) = came.unit.maker ≡ Outside → IsTraced plan w.copies (Labelled came following)
  ComesTraced w _ = Unit {0}

  content_traced : (w : LabelledNetwork) (port : ℕ) (sender : List ℕ) (to_group : Bool) (maker : Maker) (content : Content) → IsMadeBy maker content
      → (maker ≡ Outside → IsTraced plan w.copies content) → ComesTraced w (FrameComes port sender to_group content)
  content_traced w port sender to_group maker (Labelled came following) by traced = λ outside. traced (by ∙ outside)
  content_traced w port sender to_group maker (Esis value following) by traced = tt
  content_traced w port sender to_group maker (Unlabelled octets) by traced = tt

  frame_traced : (w : LabelledNetwork) (at : ℕ) (copy : Copy) → slice_get w.copies at ≡ Some copy → EachHasItsMaker plan w → (v : LabelledNetwork) → Follows w v
      → (s : SystemState) → ComesTraced v (frame_to s copy)
  frame_traced w at copy e k v follows s =
      let it = AllByRecursion-slice_get (HasItsMaker plan w.copies) w.copies at copy e k in
      let now = maker_later w.copies follows.copies.0 copy it in
      content_traced v (first_port copy s.configuration.role s.attached.ports) copy.sender (is_group copy.target) copy.maker copy.content it.maker
      (λ outside. subst (λ (copies : List Copy). IsTraced plan copies copy.content) (sym follows.copies.1) (now.outside outside))

  -- What a step sends.

  abbrev SendsTraced : List Copy → Output → Type 0
  SendsTraced copies (Transmits port target packet) = packet.unit.maker ≡ Outside → IsTraced plan copies (Labelled packet [])
  SendsTraced copies _ = Unit {0}

  on_traced : (w : LabelledNetwork) (s : SystemState) (port : ℕ) (input : Input) (p : Packet) → ComesTraced w input → GoesOnOf s port input p
      → p.unit.maker ≡ Outside → IsTraced plan w.copies (Labelled p [])
  on_traced w s port (FrameComes at sender to_group (Labelled came following)) p comes on outside =
      let traced = comes (ap (λ (u : DataUnit). u.maker) (sym on.unit) ∙ outside) in
      record {
        first = traced.first;
        there = traced.there;
        outside = traced.outside;
        carries = (traced.carries.0, traced.carries.1, traced.carries.2, on.unit ∙ traced.carries.3);
      }
  on_traced w s port _ p comes on outside = absurd on

  sends_traced : (w : LabelledNetwork) (s : SystemState) (now : ℕ) (input : Input) (units : List DataUnit) → AllByRecursion (IsFresh s now) units → ComesTraced w input
      → (output : Output) → SendsRangesOrGoesOn s input units output → SendsTraced w.copies output
  sends_traced w s now input units fresh comes (Notes note) h = tt
  sends_traced w s now input units fresh comes (SendsEsis port target value) h = tt
  sends_traced w s now input units fresh comes (Transmits port target packet) (inl new) =
      λ outside.
      let is = AllByRecursion-contains (IsFresh s now) units packet.unit new.unit fresh in
      let own : DeclaredAt s.place ≡ Outside = sym is.maker ∙ outside in
      absurd (cc)
  sends_traced w s now input units fresh comes (Transmits port target packet) (inr on) = on_traced w s port input packet comes on

  module _ (base : List Copy) where
    -- each copy has its maker, among some copies
    abbrev Has : LabelledNetwork → Type 0
    Has v = AllByRecursion (HasItsMaker plan base) v.copies

    made_copy : (found : Option PortConfig) (target : Target) (maker : Maker) (birth : ℕ) (content : Content) → IsMadeBy maker content
        → (maker ≡ Outside → IsTraced plan base content) → AllByRecursion (HasItsMaker plan base) (copy_from found target maker birth content)
    made_copy None target maker birth content by traced = tt
    made_copy (Some port) target maker birth content by traced = (record { maker = by; outside = traced }, tt)

    frame_has : (system : SystemState) (v : LabelledNetwork) (port : ℕ) (target : Target) (maker : Maker) (birth : ℕ) (content : Content) → IsMadeBy maker content
        → (maker ≡ Outside → IsTraced plan base content) → Has v → Keeps Has AnyLine (sends_frame system v port target maker birth content)
    frame_has system v port target maker birth content by traced k = record {
      world = AllByRecursion-append (HasItsMaker plan base) v.copies (copy_from (slice_get system.attached.ports port) target maker birth content) k
          (made_copy (slice_get system.attached.ports port) target maker birth content by traced);
      lines = (tt, tt);
    }

    output_has : (system : SystemState) (output : Output) → SendsTraced base output → (v : LabelledNetwork) → Has v → Keeps Has AnyLine (put_out system v output)
    output_has system (Notes note) sends v k = record { world = k; lines = (tt, tt) }
    output_has system (Transmits port target packet) sends v k =
        frame_has system v port target packet.unit.maker packet.unit.made (Labelled packet []) refl sends k
    output_has system (SendsEsis port target value) sends v k =
        frame_has system v port target (DeclaredAt system.place) system.moment (Esis value []) tt
        (λ outside. let own : DeclaredAt system.place ≡ Outside = outside in absurd (cc)) k

  step_traced : StepLaws → (w : LabelledNetwork) (place : ℕ) (s : SystemState) (input : Input) → slice_get w.systems place ≡ Some s → ComesTraced w input
      → IsOfNow w s input → EachHasItsMaker plan w → Keeps (EachHasItsMaker plan) AnyLine (takes_effect w place (step s input))
  step_traced laws w place s input there comes at k =
      let effect : Effect = step s input in
      let later : LabelledNetwork = (takes_effect w place effect).world in
      let more = effect_copies w place effect in
      let sends = AllByRecursion-implies (SendsRangesOrGoesOn s input effect.units) (SendsTraced w.copies)
      (sends_traced w s (moment_after s input) input effect.units (laws.steps.fresh s input) comes) effect.outputs (laws.steps.ranges s input) in
      let done = keeps-put_all_out (Has w.copies) AnyLine effect.after effect.outputs
      (AllByRecursion-implies (SendsTraced w.copies) (λ output. (v : LabelledNetwork) → Has w.copies v → Keeps (Has w.copies) AnyLine (put_out effect.after v output))
      (output_has w.copies effect.after) effect.outputs sends)
      (with_effect w place effect) k in
      record {
        world = subst (λ (copies : List Copy). AllByRecursion (HasItsMaker plan copies) later.copies) (sym more.1)
            (makers_later w.copies more.0 later.copies done.world);
        lines = done.lines;
      }

  -- What comes from outside.

  carries_itself : (content : Content) → CarriesOf content content
  carries_itself (Labelled packet following) = (packet, following, refl, refl)
  carries_itself (Esis value following) = refl
  carries_itself (Unlabelled octets) = refl

  outside_traced : (w : LabelledNetwork) (subnet : ℕ) (sender : List ℕ) (target : Target) (octets : List ℕ) → IsBrought plan.events sender octets → EachHasItsMaker plan w
      → EachHasItsMaker plan (with_outside w subnet sender target octets)
  outside_traced w subnet sender target octets brought k =
      let new : Copy = copy_from_outside (length w.copies + 1) w.clock subnet sender target octets in
      AllByRecursion-append (HasItsMaker plan (w.copies ++ new ∷ [])) w.copies (new ∷ []) (makers_later w.copies (new ∷ []) w.copies k) (
        record {
          maker = outside_makes (length w.copies + 1) w.clock octets (is_accepted octets) (is_none (why_refused octets));
          outside = λ outside. record {
            first = new;
            there = Contains-push w.copies new;
            outside = record { number = length w.copies + 1; moment = w.clock; octets = octets; brought = brought; content = refl };
            carries = carries_itself new.content;
          };
        },
        tt,
      )

  event_gives : (w : LabelledNetwork) (event : Event) → Contains plan.events event → GivesOnly (ComesTraced w) (IsBrought plan.events) event
  event_gives w (Send system from to body ask) there = tt
  event_gives w (Echo system from to body) there = tt
  event_gives w (Inject subnet from to octets) there = record { subnet = subnet; target = to; there = there }
  event_gives w (Mtu subnet mtu) there = λ number. tt
  event_gives w (Port system number subnet snpa) there = λ port mtu. tt
  event_gives w _ there = tt

pub makers_are_known : StepLaws → (plan : Plan) (moves : List Move) → EachHasItsMaker plan (world_after plan (first_world plan) moves)
makers_are_known laws plan moves =
    keeps-moves (ComesTraced plan) (IsBrought plan.events) (EachHasItsMaker plan) AnyLine
    (record {
      steps = step_traced plan laws;
      frames = frame_traced plan;
      moments = λ w now. tt;
      restarts = λ w. tt;
      congestion = λ w on. tt;
      cursor = λ w next k. k;
      clock = λ w clock k. k;
      outside = outside_traced plan;
      sizes = λ w subnet mtu takes k. k;
      injected = λ now copy subnet sender target. tt;
      fine = any_line_is_fine;
      changing = any_line_changes;
    })
    plan
    (λ w.
    AllByRecursion-implies (Contains plan.events) (GivesOnly (ComesTraced plan w) (IsBrought plan.events)) (event_gives plan w) plan.events
    (all_contained plan.events))
    moves (first_world plan) tt
