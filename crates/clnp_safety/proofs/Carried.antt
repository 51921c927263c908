-- Whatever comes from outside, each frame carries what one may carry, the options of a packet have the form of its unit's, and a
-- packet that isn't from outside is a range of a unit that was made.
use Rattle.clnp_machine.proofs.ClnpBase.ListSteps.{all_set}
use Rattle.clnp_machine.proofs.ClnpBase.Lists.{AllByRecursion-append, AllByRecursion-both, AllByRecursion-from_places, AllByRecursion-implies, AllByRecursion-slice_get, set_each}
use Rattle.std.proofs.Common.{◌≡◌, ◌∙◌, refl, sym, ap, subst, ℕ, ◌+◌, ◌⊎◌, inl, inr, Bool, true, false, List, [], ◌∷◌, ◌++◌, length, length-set, Option, None, Some, arith}
use Rattle.std.specs.Prelude.{if◌then◌else◌, is_none, slice_get, slice_set}
use Rattle.std.specs.List.{AllByRecursion}
use Rattle.std.proofs.lemmas.List.{length-map}
use Rattle.hex.specs.Hex.{IsBytes}
use Rattle.clnp_machine.specs.Nsap.Address.{IsAddress}
use Rattle.clnp_machine.specs.Pdus.declared.nsap.target.Target.{Target}
use Rattle.clnp_machine.specs.ClnpOptions.Edits.{HaveOneForm}
use Rattle.clnp_machine.specs.PduHeader.Reading.{rest_of}
use Rattle.clnp_machine.specs.EsisPdus.Grammar.{IsPdu}
use Rattle.clnp_machine.specs.EsisPdus.Reading as esis_reading
use Rattle.clnp_machine.specs.EsisPdus.Rules.{why_refused}
use Rattle.clnp_machine.specs.ClnpPlan.Configuration.{IsWithin, SystemConfiguration}
use Rattle.clnp_machine.specs.ClnpPlan.declared.config.PortConfig.{PortConfig}
use Rattle.clnp_machine.specs.ScenarioPlan.Plan.{IsFit, Plan, Subnetwork}
use Rattle.clnp_machine.specs.ClnpPlan.declared.scenario_plan.event.Event.{Event}
use Rattle.clnp_machine.specs.ClnpPlan.declared.scenario_plan.event.Event.TheVariants.{Send, Echo, Inject, Mtu, Route, Unroute, Port}
use Rattle.clnp_machine.specs.ClnpPlan.declared.scenario_plan.event.Move.{Move}
use Rattle.clnp_machine.specs.Unit.{DataUnit, Maker, DeclaredAt, Outside, IsCarriable, Packet}
use Rattle.clnp_machine.specs.Content.{Content, IsCarried, Labelled, Esis, Unlabelled, esis_value_in, is_accepted, packet_from_outside, value_in}
use Rattle.clnp_machine.specs.Change.{PortTakes}
use Rattle.clnp_machine.specs.System.{SystemState, Input, FrameComes, IsChanged, Output, Transmits, SendsEsis, Notes, Effect}
use Rattle.clnp_machine.specs.Step.{step}
use Rattle.clnp_machine.specs.EveryStep.{GoesOnOf, IsFair, IsRangeOf, KeepsAsOffered, KnowsAddresses, SendsCarriable, SendsEsisPdus, SendsRangesOrGoesOn}
use Rattle.clnp_machine.specs.ClnpNetwork.LabelledNetwork.{LabelledNetwork, Copy, copy_from, copy_from_outside, frame_to, sends_frame, put_out, takes_effect, with_effect, first_world}
use Rattle.clnp_machine.specs.ClnpNetwork.Run.{world_after}
use Rattle.clnp_machine.specs.ClnpNetwork.Safe.{KeepsHeader, KeepsHeaders, RangeIn}
use Rattle.clnp_safety.specs.Outside.{CarriesRangesOrOutside, IsMadeBy, OutsideOrRange, PduIsUnbroken, PdusAreUnbroken}
use Rattle.clnp_safety.specs.Attached.{AreItsMtus, HasItsPorts, IsAttachedThroughout}
use Rattle.clnp_safety.specs.StepLaws.{StepLaws}
use Rattle.clnp_safety.proofs.Attaching.{is_fair_change}
use Rattle.clnp_safety.proofs.EveryMove.{Follows, GivesOnly, IsOfNow, keeps-moves}
use Rattle.clnp_safety.proofs.Events.{ChangesFormed, IsFitEvent, fit_events}
use Rattle.clnp_safety.proofs.Lines.{AnyLine, any_line_changes, any_line_is_fine}
use Rattle.clnp_safety.proofs.Opens.{configured, first_mtus, opened}
use Rattle.clnp_safety.proofs.Outputs.{PortsAreAddressed}
use Rattle.clnp_safety.proofs.Traced.{outside_makes}
use Rattle.clnp_safety.proofs.Units.{packet_goes_on, range_sooner, range_later}
use Rattle.clnp_safety.proofs.Steps.{Keeps, keeps-map, keeps-put_all_out, with_outside}

-- the options of a packet have the form of its unit's
abbrev IsInForm : Content → Type 0
IsInForm (Labelled packet following) = HaveOneForm packet.options packet.unit.options
IsInForm (Esis value following) = Unit {0}
IsInForm (Unlabelled octets) = Unit {0}

-- a packet is of a unit from outside, or a range of one of some units
abbrev IsOutsideOrOf : List DataUnit → Packet → Type 0
IsOutsideOrOf units p = (p.unit.maker ≡ Outside) ⊎ IsRangeOf units p

-- a frame comes from an address, and carries what one may carry: what was made outside, or a range of a unit that was made
pub record IsCarriedInForm (units : List DataUnit) (copy : Copy) : Type 0 where
  sender : IsAddress copy.sender
  carried : IsCarried copy.content
  form : IsInForm copy.content
  made_by : IsMadeBy copy.maker copy.content
  origin : OutsideOrRange units copy

-- the system at a place is that of the plan, keeps segments as they were offered, heard of systems at addresses, and is attached as it
-- should be
pub record IsOfPlan (plan : Plan) (place : ℕ) (s : SystemState) : Type 0 where
  pub declared : slice_get plan.systems place ≡ Some s.configuration
  pub kept : KeepsAsOffered s
  pub known : KnowsAddresses s
  pub ports : HasItsPorts s

-- these units were made, each frame is such, each system is that of the plan, and subnetworks take frames that are long enough
pub record AllIsCarriedBeside (plan : Plan) (units : List DataUnit) (w : LabelledNetwork) : Type 0 where
  pub made : w.units ≡ units
  pub copies : AllByRecursion (IsCarriedInForm units) w.copies
  pub each : (place : ℕ) (s : SystemState) → slice_get w.systems place ≡ Some s → IsOfPlan plan place s
  pub mtus : AreItsMtus plan w.mtus

abbrev pub AllIsCarried : Plan → LabelledNetwork → Type 0
AllIsCarried plan w = AllIsCarriedBeside plan w.units w

all_beside : (plan : Plan) (units : List DataUnit) (w : LabelledNetwork) → AllIsCarriedBeside plan units w → AllIsCarried plan w
all_beside plan units w h = subst (λ us. AllIsCarriedBeside plan us w) (sym h.made) h

origin_later : (units more : List DataUnit) (birth : ℕ) (content : Content) → RangeIn units birth content → RangeIn (units ++ more) birth content
origin_later units more birth (Labelled packet following) range = (range_sooner units more packet range.0, range.1, range.2)
origin_later units more birth (Esis value following) range = range
origin_later units more birth (Unlabelled octets) range = absurd range

-- a copy stays such as more units are made
copy_later : (units more : List DataUnit) (copy : Copy) → IsCarriedInForm units copy → IsCarriedInForm (units ++ more) copy
copy_later units more copy h = record {
  sender = h.sender;
  carried = h.carried;
  form = h.form;
  made_by = h.made_by;
  origin = elim h.origin [ inl outside ↦ inl outside | inr range ↦ inr (origin_later units more copy.birth copy.content range) ];
}

-- What comes.

abbrev PacketIsKnown : List DataUnit → Content → Type 0
PacketIsKnown units (Labelled packet following) = IsOutsideOrOf units packet
PacketIsKnown units (Esis value following) = Unit {0}
PacketIsKnown units (Unlabelled octets) = Unit {0}

abbrev FrameInForm : List DataUnit → Input → Type 0
FrameInForm units (FrameComes port sender to_group content) = IsInForm content × PacketIsKnown units content
FrameInForm units _ = Unit {0}

abbrev pub ComesFairly : List DataUnit → Input → Type 0
ComesFairly units input = IsFair input × FrameInForm units input × ChangesFormed input

packet_is_known : (units : List DataUnit) (maker : Maker) (birth : ℕ) (content : Content) → IsMadeBy maker content → (maker ≡ Outside) ⊎ RangeIn units birth content
    → PacketIsKnown units content
packet_is_known units maker birth (Labelled packet following) by origin = elim origin [ inl outside ↦ inl (sym by ∙ outside) | inr range ↦ inr range.0 ]
packet_is_known units maker birth (Esis value following) by origin = tt
packet_is_known units maker birth (Unlabelled octets) by origin = tt

known_later : (units more : List DataUnit) (content : Content) → PacketIsKnown units content → PacketIsKnown (units ++ more) content
known_later units more (Labelled packet following) known = elim known [ inl outside ↦ inl outside | inr range ↦ inr (range_sooner units more packet range) ]
known_later units more (Esis value following) known = tt
known_later units more (Unlabelled octets) known = tt

abbrev IsBroughtFairly : List ℕ → List ℕ → Type 0
IsBroughtFairly sender octets = IsAddress sender × IsBytes octets

event_gives : (plan : Plan) (units : List DataUnit) (event : Event) → IsFitEvent plan event → GivesOnly (ComesFairly units) IsBroughtFairly event
event_gives plan units (Send system from to body ask) is = ((is.formed, is.fair), tt, tt)
event_gives plan units (Echo system from to body) is = ((is.formed.0, is.formed.1), tt, tt)
event_gives plan units (Inject subnet from to octets) is = (is.injected.sender, is.injected.bytes)
event_gives plan units (Mtu subnet mtu) is = λ number. (tt, tt, is.said)
event_gives plan units (Route system route) is = (tt, tt, is.changes.next)
event_gives plan units (Unroute system prefix) is = (tt, tt, tt)
event_gives plan units (Port system number subnet snpa) is = λ port mtu. (tt, tt, is.changes.address)
event_gives plan units _ is = tt

events_give : (plan : Plan) → IsFit plan → (units : List DataUnit) → AllByRecursion (GivesOnly (ComesFairly units) IsBroughtFairly) plan.events
events_give plan fit units =
    AllByRecursion-implies (IsFitEvent plan) (GivesOnly (ComesFairly units) IsBroughtFairly) (event_gives plan units) plan.events (fit_events plan fit)

-- What a step sends.

-- what is sent is what a frame may carry, in form
abbrev SendsInForm : List DataUnit → Output → Type 0
SendsInForm units (Transmits port target packet) = IsCarriable packet × HaveOneForm packet.options packet.unit.options × IsOutsideOrOf units packet
SendsInForm units (SendsEsis port target value) = IsPdu value
SendsInForm units (Notes note) = Unit {0}

-- what a frame carries that a system sends
record IsSent (units : List DataUnit) (maker : Maker) (birth : ℕ) (content : Content) : Type 0 where
  carried : IsCarried content
  form : IsInForm content
  made_by : IsMadeBy maker content
  origin : (maker ≡ Outside) ⊎ RangeIn units birth content

copy_in_form : (units : List DataUnit) (found : Option PortConfig) (target : Target) (maker : Maker) (birth : ℕ) (content : Content)
    → ((port : PortConfig) → found ≡ Some port → IsAddress port.snpa) → IsSent units maker birth content
    → AllByRecursion (IsCarriedInForm units) (copy_from found target maker birth content)
copy_in_form units None target maker birth content addressed sent = tt
copy_in_form units (Some port) target maker birth content addressed sent =
    (record { sender = addressed port refl; carried = sent.carried; form = sent.form; made_by = sent.made_by; origin = sent.origin }, tt)

module _ (plan : Plan) (units : List DataUnit) where
  abbrev Beside : LabelledNetwork → Type 0
  Beside = AllIsCarriedBeside plan units

  frame_is_carried : (system : SystemState) → PortsAreAddressed system → (v : LabelledNetwork) (port : ℕ) (target : Target) (maker : Maker) (birth : ℕ) (content : Content)
      → IsSent units maker birth content → Beside v → Keeps Beside AnyLine (sends_frame system v port target maker birth content)
  frame_is_carried system addressed v port target maker birth content sent k = record {
    world = record {
      made = k.made;
      copies = AllByRecursion-append (IsCarriedInForm units) v.copies (copy_from (slice_get system.attached.ports port) target maker birth content) k.copies
          (copy_in_form units (slice_get system.attached.ports port) target maker birth content
          (λ config there. AllByRecursion-slice_get (λ (port : PortConfig). IsAddress port.snpa) system.attached.ports port config there addressed) sent);
      each = k.each;
      mtus = k.mtus;
    };
    lines = (tt, tt);
  }

  packet_is_sent : (packet : Packet) → IsOutsideOrOf units packet → (packet.unit.maker ≡ Outside) ⊎ RangeIn units packet.unit.made (Labelled packet [])
  packet_is_sent packet origin = elim origin [ inl outside ↦ inl outside | inr range ↦ inr (range, refl, refl) ]

  output_is_carried : (system : SystemState) → PortsAreAddressed system → (output : Output) → SendsInForm units output → (v : LabelledNetwork) → Beside v
      → Keeps Beside AnyLine (put_out system v output)
  output_is_carried system addressed (Notes note) sends v k = record { world = k; lines = (tt, tt) }
  output_is_carried system addressed (Transmits port target packet) sends v k =
      frame_is_carried system addressed v port target packet.unit.maker packet.unit.made (Labelled packet [])
      (record { carried = sends.0; form = sends.1; made_by = refl; origin = packet_is_sent packet sends.2 }) k
  output_is_carried system addressed (SendsEsis port target value) sends v k =
      frame_is_carried system addressed v port target (DeclaredAt system.place) system.moment (Esis value [])
      (record { carried = sends; form = tt; made_by = tt; origin = inr (sends, refl) }) k

module _ (laws : StepLaws) (s : SystemState) (units : List DataUnit) where
  -- a packet that goes on has options of its unit's form, as that which came has
  on_in_form : (port : ℕ) (input : Input) (p : Packet) → ComesFairly units input → GoesOnOf s port input p → HaveOneForm p.options p.unit.options
  on_in_form port (FrameComes at sender to_group (Labelled came following)) p comes on =
      laws.headers.chained p.options came.options p.unit.options (on.options comes.0.1)
      (subst (λ (u : DataUnit). HaveOneForm came.options u.options) (sym on.unit) comes.1.0)
  on_in_form port _ p comes on = absurd on

  -- and it is from outside, or a range of a unit, as that is
  on_is_known : (port : ℕ) (input : Input) (p : Packet) → ComesFairly units input → GoesOnOf s port input p → IsOutsideOrOf units p
  on_is_known port (FrameComes at sender to_group (Labelled came following)) p comes on =
      elim comes.1.1 [
        | inl outside ↦ inl (ap (λ (u : DataUnit). u.maker) on.unit ∙ outside)
        | inr range ↦ inr (packet_goes_on laws units s port came p on range comes.0.1)
      ]
  on_is_known port _ p comes on = absurd on

  sends_in_form : (input : Input) → ComesFairly units input → (made : List DataUnit) (output : Output) → SendsRangesOrGoesOn s input made output
      → SendsCarriable output × SendsEsisPdus output → SendsInForm (units ++ made) output
  sends_in_form input comes made (Notes note) ranges sends = tt
  sends_in_form input comes made (Transmits port target packet) ranges sends = (
    sends.0,
    elim ranges [ inl new ↦ new.options | inr on ↦ on_in_form port input packet comes on ],
    elim ranges [
      | inl new ↦ inr (range_later units made packet new)
      | inr on ↦ known_later units made (Labelled packet []) (on_is_known port input packet comes on)
    ],
  )
  sends_in_form input comes made (SendsEsis port target value) ranges sends = sends.1

module _ (laws : StepLaws) (plan : Plan) (fit : IsFit plan) where
  pub step_is_carried : (w : LabelledNetwork) (place : ℕ) (s : SystemState) (input : Input) → slice_get w.systems place ≡ Some s → ComesFairly w.units input → IsOfNow w s input
      → AllIsCarried plan w → Keeps (AllIsCarried plan) AnyLine (takes_effect w place (step s input))
  step_is_carried w place s input there comes at k =
      let effect : Effect = step s input in
      let it = k.each place s there in
      let is = configured plan fit place s.configuration it.declared in
      let same = (laws.steps.itself s input).configuration in
      let attached = laws.steps.soundly s input (is_fair_change w s k.mtus.each it.ports.attached input comes.2 at) it.ports.attached in
      let units : List DataUnit = w.units ++ effect.units in
      let sends = AllByRecursion-both (SendsRangesOrGoesOn s input effect.units) (λ output. SendsCarriable output × SendsEsisPdus output) (SendsInForm units)
      (sends_in_form laws s w.units input comes effect.units) effect.outputs (laws.steps.ranges s input)
      (AllByRecursion-both SendsCarriable SendsEsisPdus (λ output. SendsCarriable output × SendsEsisPdus output) (λ output a b. (a, b)) effect.outputs
      (laws.steps.carriable s input is.0 it.ports.attached.ports comes.0 is.1.own it.kept)
      (laws.steps.esis_pdus s input is.0 is.1.own it.ports.attached.next comes.0 it.known)) in
      let beside : LabelledNetwork → Type 0 = AllIsCarriedBeside plan units in
      keeps-map beside (AllIsCarried plan) AnyLine (takes_effect w place effect) (all_beside plan units)
      (keeps-put_all_out beside AnyLine effect.after effect.outputs
      (AllByRecursion-implies (SendsInForm units) (λ output. (v : LabelledNetwork) → beside v → Keeps beside AnyLine (put_out effect.after v output))
      (output_is_carried plan units effect.after attached.addressed) effect.outputs sends)
      (with_effect w place effect)
      (record {
        made = refl;
        copies = AllByRecursion-implies (IsCarriedInForm w.units) (IsCarriedInForm units) (copy_later w.units effect.units) w.copies k.copies;
        each = set_each (IsOfPlan plan) (IsOfPlan plan) w.systems place effect.after k.each (λ other t apart h. h)
            (record {
              declared = it.declared ∙ ap Some (sym same);
              kept = laws.steps.kept s input comes.0 it.kept;
              known = laws.steps.known s input comes.0 it.known;
              ports = record {
                attached = attached;
                number = laws.steps.ports s input ∙ it.ports.number ∙ ap (λ (c : SystemConfiguration). length c.ports) (sym same);
              };
            });
        mtus = k.mtus;
      }))

  pub frame_comes_fairly : (w : LabelledNetwork) (at : ℕ) (copy : Copy) → slice_get w.copies at ≡ Some copy → AllIsCarried plan w
      → (v : LabelledNetwork) → Follows w v → (s : SystemState) → ComesFairly v.units (frame_to s copy)
  frame_comes_fairly w at copy there k v follows s =
      let it = AllByRecursion-slice_get (IsCarriedInForm w.units) w.copies at copy there k.copies in
      let known = packet_is_known w.units copy.maker copy.birth copy.content it.made_by it.origin in (
        (it.sender, it.carried),
        (it.form, subst (λ us. PacketIsKnown us copy.content) (sym follows.units.1) (known_later w.units follows.units.0 copy.content known)),
        tt,
      )

  -- a packet from outside is all of what is known of its unit
  outside_in_form : (number moment : ℕ) (octets : List ℕ) (accepted unrefused : Bool)
      → IsInForm (if accepted then Labelled (packet_from_outside number moment (value_in octets)) (rest_of octets)
      else if unrefused then Esis (esis_value_in octets) (esis_reading.rest_of octets) else Unlabelled octets)
  outside_in_form number moment octets true unrefused = laws.headers.same (value_in octets).options
  outside_in_form number moment octets false true = tt
  outside_in_form number moment octets false false = tt

  outside_is_carried : (w : LabelledNetwork) (subnet : ℕ) (sender : List ℕ) (target : Target) (octets : List ℕ) → IsBroughtFairly sender octets → AllIsCarried plan w
      → AllIsCarried plan (with_outside w subnet sender target octets)
  outside_is_carried w subnet sender target octets brought k = record {
    made = refl;
    copies = AllByRecursion-append (IsCarriedInForm w.units) w.copies (copy_from_outside (length w.copies + 1) w.clock subnet sender target octets ∷ []) k.copies (
      record {
        sender = brought.0;
        carried = laws.outside (length w.copies + 1) w.clock octets brought.1;
        form = outside_in_form (length w.copies + 1) w.clock octets (is_accepted octets) (is_none (why_refused octets));
        made_by = outside_makes (length w.copies + 1) w.clock octets (is_accepted octets) (is_none (why_refused octets));
        origin = inl refl;
      },
      tt,
    );
    each = k.each;
    mtus = k.mtus;
  }

  pub sizes_are_carried : (w : LabelledNetwork) (subnet mtu : ℕ) → ((number : ℕ) → ComesFairly w.units (IsChanged (PortTakes number mtu))) → AllIsCarried plan w
      → AllIsCarried plan (record w { mtus = slice_set w.mtus subnet mtu })
  sizes_are_carried w subnet mtu takes k = record {
    made = refl;
    copies = k.copies;
    each = k.each;
    mtus = record {
      number = length-set w.mtus subnet mtu ∙ k.mtus.number;
      each = all_set (IsWithin 512 65535) w.mtus subnet mtu k.mtus.each (takes 0).2;
    };
  }

  pub first_is_carried : AllIsCarried plan (first_world plan)
  first_is_carried = record {
    made = refl;
    copies = tt;
    each = λ place s there.
        let here = opened plan.limits 0 plan.systems place place s (omega arith) there in
        let is = configured plan fit place here.configuration here.declared in
        subst (IsOfPlan plan place) here.state
        (record {
          declared = here.declared;
          kept = tt;
          known = tt;
          ports = record { attached = laws.declared here.configuration is.0 is.1; number = refl };
        });
    mtus = record { number = length-map plan.subnets (λ (subnet : Subnetwork). subnet.mtu); each = first_mtus plan fit };
  }

  pub all_is_carried : (moves : List Move) → AllIsCarried plan (world_after plan (first_world plan) moves)
  all_is_carried moves =
      keeps-moves (λ v. ComesFairly v.units) IsBroughtFairly (AllIsCarried plan) AnyLine
      (record {
        steps = step_is_carried;
        frames = frame_comes_fairly;
        moments = λ v now. (tt, tt, tt);
        restarts = λ v. (tt, tt, tt);
        congestion = λ v on. (tt, tt, tt);
        cursor = λ w next k. record { made = refl; copies = k.copies; each = k.each; mtus = k.mtus };
        clock = λ w clock k. record { made = refl; copies = k.copies; each = k.each; mtus = k.mtus };
        outside = outside_is_carried;
        sizes = sizes_are_carried;
        injected = λ now copy subnet sender target. tt;
        fine = any_line_is_fine;
        changing = any_line_changes;
      })
      plan (λ v. events_give plan fit v.units) moves (first_world plan) first_is_carried

-- What follows of it.

keeps_header : StepLaws → (content : Content) → IsInForm content → KeepsHeader content
keeps_header laws (Labelled packet following) form = laws.headers.header packet form
keeps_header laws (Esis value following) form = tt
keeps_header laws (Unlabelled octets) form = tt

pub headers_are_kept : StepLaws → (plan : Plan) → IsFit plan → (moves : List Move) → KeepsHeaders (world_after plan (first_world plan) moves)
headers_are_kept laws plan fit moves =
    let w = world_after plan (first_world plan) moves in
    AllByRecursion-implies (IsCarriedInForm w.units) (λ (copy : Copy). KeepsHeader copy.content) (λ copy h. keeps_header laws copy.content h.form) w.copies
    (all_is_carried laws plan fit moves).copies

unbroken : StepLaws → (content : Content) → IsCarried content → PduIsUnbroken content
unbroken laws (Labelled packet following) carried = laws.frames packet following carried
unbroken laws (Esis value following) carried = laws.esis_frames value following carried
unbroken laws (Unlabelled octets) carried = tt

pub pdus_are_unbroken : StepLaws → (plan : Plan) → IsFit plan → (moves : List Move) → PdusAreUnbroken (world_after plan (first_world plan) moves)
pdus_are_unbroken laws plan fit moves =
    let w = world_after plan (first_world plan) moves in
    AllByRecursion-implies (IsCarriedInForm w.units) (λ (copy : Copy). PduIsUnbroken copy.content) (λ copy h. unbroken laws copy.content h.carried) w.copies
    (all_is_carried laws plan fit moves).copies

pub ranges_or_outside : StepLaws → (plan : Plan) → IsFit plan → (moves : List Move) → CarriesRangesOrOutside (world_after plan (first_world plan) moves)
ranges_or_outside laws plan fit moves =
    let w = world_after plan (first_world plan) moves in
    AllByRecursion-implies (IsCarriedInForm w.units) (OutsideOrRange w.units) (λ copy h. h.origin) w.copies (all_is_carried laws plan fit moves).copies

pub attached_throughout : StepLaws → (plan : Plan) → IsFit plan → (moves : List Move) → IsAttachedThroughout plan (world_after plan (first_world plan) moves)
attached_throughout laws plan fit moves =
    let w = world_after plan (first_world plan) moves in
    let k = all_is_carried laws plan fit moves in
    record {
      mtus = k.mtus;
      systems = AllByRecursion-from_places HasItsPorts w.systems (λ place s there. (k.each place s there).ports);
    }
