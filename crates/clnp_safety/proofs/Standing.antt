-- What a system keeps stands in a copy, whatever comes from outside; and without frames from outside each error report is of the discard
-- of a packet that stands in one.
use Rattle.clnp_machine.proofs.ClnpBase.ListSteps.{all_set}
use Rattle.clnp_machine.proofs.ClnpBase.Lists.{AllByRecursion-any, AllByRecursion-append, AllByRecursion-both, AllByRecursion-contains, AllByRecursion-implies, AllByRecursion-mapped, AllByRecursion-slice_get}
use Rattle.std.proofs.Common.{◌≡◌, ◌∙◌, refl, sym, subst, ℕ, ◌+◌, inl, inr, Bool, List, [], ◌∷◌, ◌++◌, length, map, Option, None, Some, Contains}
use Rattle.std.specs.Prelude.{slice_get}
use Rattle.std.specs.List.{AllByRecursion}
use Rattle.std.proofs.lemmas.List.Elements.{Contains-append_left}
use Rattle.std.proofs.lemmas.Option.{get_or_from_slice_get, slice_get_within}
use Rattle.clnp_machine.specs.Pdus.declared.nsap.target.Target.{Target}
use Rattle.clnp_machine.specs.Pdus.declared.pdu_header.kind.Kind.TheVariants.{Er}
use Rattle.clnp_machine.specs.Reassembly.Arrival.{Arrival}
use Rattle.clnp_machine.specs.ClnpPlan.Configuration.{SystemConfiguration}
use Rattle.clnp_machine.specs.ClnpPlan.declared.config.Limits.{Limits}
use Rattle.clnp_machine.specs.ClnpPlan.declared.config.PortConfig.{PortConfig}
use Rattle.clnp_machine.specs.ClnpPlan.declared.note.Note.{Note}
use Rattle.clnp_machine.specs.ScenarioPlan.Plan.{InjectsNothing, IsClosed, IsFit, Plan}
use Rattle.clnp_machine.specs.ClnpPlan.declared.scenario_plan.event.Event.{Event}
use Rattle.clnp_machine.specs.ClnpPlan.declared.scenario_plan.event.Event.TheVariants.{Send, Echo, Inject, Mtu, Route, Unroute, Port}
use Rattle.clnp_machine.specs.ClnpPlan.declared.scenario_plan.event.Move.{Move}
use Rattle.clnp_machine.specs.Unit.{DataUnit, Maker, DeclaredAt, Packet}
use Rattle.clnp_machine.specs.Content.{Content, Labelled, Esis, Unlabelled}
use Rattle.clnp_machine.specs.System.{SystemState, Input, FrameComes, Output, Transmits, SendsEsis, Notes, Effect}
use Rattle.clnp_machine.specs.Step.{step}
use Rattle.clnp_machine.specs.EveryStep.{ComesWith, IsAtHand, NotesOnly, ReportsOn, WasKeptOrComes, segments_in}
use Rattle.clnp_machine.specs.Told.{SpellsPdus}
use Rattle.clnp_machine.specs.ClnpNetwork.LabelledNetwork.{LabelledNetwork, Copy, after, copy_from, copy_from_outside, first_port, first_world, frame_to, is_group, put_out, sends_frame, states_from, takes_effect, with_effect}
use Rattle.clnp_machine.specs.ClnpNetwork.Run.{Entry, entries_of, world_after}
use Rattle.clnp_machine.specs.ClnpNetwork.Safe.{CameInCopy, KeepsWhatCame, ReportsOnCopy, ReportsStand, StandsInCopy}
use Rattle.clnp_safety.specs.StepLaws.{StepLaws}
use Rattle.clnp_safety.proofs.Carried.{AllIsCarried, ComesFairly, first_is_carried, frame_comes_fairly, sizes_are_carried, step_is_carried}
use Rattle.clnp_safety.proofs.EveryMove.{AnyFrame, EachStepKeeps, Follows, GivesOnly, IsOfNow, asked_by_all, effect_makes, keeps-move, keeps-moves}
use Rattle.clnp_safety.proofs.Events.{IsFitEvent, fit_events}
use Rattle.clnp_safety.proofs.Grows.{effect_copies}
use Rattle.clnp_safety.proofs.Lines.{AnyLine, LineIs, any_line_changes, any_line_is_fine}
use Rattle.clnp_safety.proofs.Outputs.{takes_effect_notes}
use Rattle.clnp_safety.proofs.Redirects.{systems_after}
use Rattle.clnp_safety.proofs.Steps.{ChangingIsFine, Keeps, keeps-put_all_out, with_outside}

-- Copies stay.

pub stands_later : (copies more : List Copy) (p : Packet) (following : List ℕ) → StandsInCopy copies p following → StandsInCopy (copies ++ more) p following
stands_later copies more p following h = record { copy = h.copy; there = Contains-append_left copies more h.copy h.there; carries = h.carries }

came_later : (copies more : List Copy) (arrival : Arrival Packet) → CameInCopy copies arrival → CameInCopy (copies ++ more) arrival
came_later copies more arrival h = record {
  following = h.following;
  is_offered = h.is_offered;
  stands = stands_later copies more arrival.carried h.following h.stands;
}

-- each segment that a system keeps came in a copy
abbrev Came : List Copy → SystemState → Type 0
Came copies s = AllByRecursion (CameInCopy copies) (segments_in s.buffers)

system_later : (copies more : List Copy) (s : SystemState) → Came copies s → Came (copies ++ more) s
system_later copies more s h = AllByRecursion-implies (CameInCopy copies) (CameInCopy (copies ++ more)) (came_later copies more) (segments_in s.buffers) h

systems_later : (copies more : List Copy) (systems : List SystemState) → AllByRecursion (Came copies) systems → AllByRecursion (Came (copies ++ more)) systems
systems_later copies more systems h = AllByRecursion-implies (Came copies) (Came (copies ++ more)) (system_later copies more) systems h

-- What comes stands in a copy.

abbrev pub ComesStanding : LabelledNetwork → Input → Type 0
ComesStanding w (FrameComes port sender to_group (Labelled p following)) = StandsInCopy w.copies p following
ComesStanding w _ = Unit {0}

contained : (copies : List Copy) (at : ℕ) (copy : Copy) → slice_get copies at ≡ Some copy → Contains copies copy
contained copies at copy e = (at, slice_get_within copies at copy e, get_or_from_slice_get copies at copy copy e)

content_stands : (w : LabelledNetwork) (port : ℕ) (sender : List ℕ) (to_group : Bool) (content : Content) (copy : Copy) → copy.content ≡ content → Contains w.copies copy
    → ComesStanding w (FrameComes port sender to_group content)
content_stands w port sender to_group (Labelled p following) copy is there = record { copy = copy; there = there; carries = is }
content_stands w port sender to_group (Esis value following) copy is there = tt
content_stands w port sender to_group (Unlabelled octets) copy is there = tt

pub frame_stands : (w : LabelledNetwork) (at : ℕ) (copy : Copy) → slice_get w.copies at ≡ Some copy → (v : LabelledNetwork) → Follows w v → (s : SystemState)
    → ComesStanding v (frame_to s copy)
frame_stands w at copy e v follows s =
    content_stands v (first_port copy s.configuration.role s.attached.ports) copy.sender (is_group copy.target) copy.content copy refl
    (subst (λ (copies : List Copy). Contains copies copy) (sym follows.copies.1) (Contains-append_left w.copies follows.copies.0 copy (contained w.copies at copy e)))

came_with : (w : LabelledNetwork) (input : Input) (arrival : Arrival Packet) → ComesStanding w input → ComesWith input arrival → CameInCopy w.copies arrival
came_with w (FrameComes port sender to_group (Labelled p following)) arrival stands is =
    subst (CameInCopy w.copies) (sym is) (record { following = following; is_offered = refl; stands = stands })
came_with w (FrameComes port sender to_group (Esis value following)) arrival stands is = absurd is
came_with w (FrameComes port sender to_group (Unlabelled octets)) arrival stands is = absurd is
came_with w _ arrival stands is = absurd is

-- What is kept.

step_came : StepLaws → (w : LabelledNetwork) (place : ℕ) (s : SystemState) (input : Input) → slice_get w.systems place ≡ Some s → ComesStanding w input
    → IsOfNow w s input → KeepsWhatCame w → Keeps KeepsWhatCame AnyLine (takes_effect w place (step s input))
step_came laws w place s input there comes at k =
    let effect : Effect = step s input in
    let later : LabelledNetwork = (takes_effect w place effect).world in
    let more = effect_copies w place effect in
    let it : Came w.copies s = AllByRecursion-slice_get (Came w.copies) w.systems place s there k in
    let kept : Came w.copies effect.after =
    AllByRecursion-implies (WasKeptOrComes s input) (CameInCopy w.copies)
    (λ arrival h.
    elim h [
      | inl was ↦ AllByRecursion-contains (CameInCopy w.copies) (segments_in s.buffers) arrival was it
      | inr came ↦ came_with w input arrival comes came
    ])
    (segments_in effect.after.buffers) (laws.steps.kept_or_come s input) in
    let systems : AllByRecursion (Came w.copies) later.systems =
    subst (AllByRecursion (Came w.copies)) (sym (systems_after w place effect)) (all_set (Came w.copies) w.systems place effect.after k kept) in
    record {
      world = subst (λ (copies : List Copy). AllByRecursion (Came copies) later.systems) (sym more.1) (systems_later w.copies more.0 later.systems systems);
      lines = AllByRecursion-any AnyLine (λ line. tt) (takes_effect w place effect).lines;
    }

outside_came : (w : LabelledNetwork) (subnet : ℕ) (sender : List ℕ) (target : Target) (octets : List ℕ) → KeepsWhatCame w
    → KeepsWhatCame (with_outside w subnet sender target octets)
outside_came w subnet sender target octets k =
    systems_later w.copies (copy_from_outside (length w.copies + 1) w.clock subnet sender target octets ∷ []) w.systems k

first_came : (limits : Limits) (place : ℕ) (systems : List SystemConfiguration) → AllByRecursion (Came []) (states_from limits place systems)
first_came limits place [] = tt
first_came limits place (system ∷ systems) = (tt, first_came limits (place + 1) systems)

pub keeps_what_came : StepLaws → (plan : Plan) (moves : List Move) → KeepsWhatCame (world_after plan (first_world plan) moves)
keeps_what_came laws plan moves =
    keeps-moves ComesStanding AnyFrame KeepsWhatCame AnyLine
    (record {
      steps = step_came laws;
      frames = λ w at copy e k v follows s. frame_stands w at copy e v follows s;
      moments = λ w now. tt;
      restarts = λ w. tt;
      congestion = λ w on. tt;
      cursor = λ w next k. k;
      clock = λ w clock k. k;
      outside = λ w subnet sender target octets any k. outside_came w subnet sender target octets k;
      sizes = λ w subnet mtu takes k. k;
      injected = λ now copy subnet sender target. tt;
      fine = any_line_is_fine;
      changing = any_line_changes;
    })
    plan (λ w. asked_by_all (ComesStanding w) (λ from to octets ask. tt) (λ from to octets. tt) (λ change. tt) plan.events) moves (first_world plan)
    (first_came plan.limits 0 plan.systems)

-- Error reports.

-- a frame begins with a PDU
abbrev IsSpelled : Content → Type 0
IsSpelled (Labelled packet following) = Unit {0}
IsSpelled (Esis value following) = Unit {0}
IsSpelled (Unlabelled octets) = ⊥

abbrev AreSpelled : LabelledNetwork → Type 0
AreSpelled w = AllByRecursion (λ copy. IsSpelled copy.content) w.copies

copy_spelled : (found : Option PortConfig) (target : Target) (maker : Maker) (birth : ℕ) (content : Content) → IsSpelled content
    → AllByRecursion (λ (copy : Copy). IsSpelled copy.content) (copy_from found target maker birth content)
copy_spelled None target maker birth content is = tt
copy_spelled (Some port) target maker birth content is = (is, tt)

frame_spelled : (system : SystemState) (v : LabelledNetwork) (port : ℕ) (target : Target) (maker : Maker) (birth : ℕ) (content : Content) → IsSpelled content → AreSpelled v
    → Keeps AreSpelled AnyLine (sends_frame system v port target maker birth content)
frame_spelled system v port target maker birth content is k = record {
  world = AllByRecursion-append (λ (copy : Copy). IsSpelled copy.content) v.copies
      (copy_from (slice_get system.attached.ports port) target maker birth content) k
      (copy_spelled (slice_get system.attached.ports port) target maker birth content is);
  lines = (tt, tt);
}

output_spelled : (system : SystemState) (output : Output) (v : LabelledNetwork) → AreSpelled v → Keeps AreSpelled AnyLine (put_out system v output)
output_spelled system (Notes note) v k = record { world = k; lines = (tt, tt) }
output_spelled system (Transmits port target packet) v k =
    frame_spelled system v port target packet.unit.maker packet.unit.made (Labelled packet []) tt k
output_spelled system (SendsEsis port target value) v k = frame_spelled system v port target (DeclaredAt system.place) system.moment (Esis value []) tt k

effect_spelled : (w : LabelledNetwork) (place : ℕ) (effect : Effect) → AreSpelled w → AreSpelled (takes_effect w place effect).world
effect_spelled w place effect k =
    (keeps-put_all_out AreSpelled AnyLine effect.after effect.outputs
    (AllByRecursion-any (λ output. (v : LabelledNetwork) → AreSpelled v → Keeps AreSpelled AnyLine (put_out effect.after v output)) (output_spelled effect.after)
    effect.outputs)
    (with_effect w place effect) k).world

content_spells : (port : ℕ) (sender : List ℕ) (to_group : Bool) (content : Content) → IsSpelled content → SpellsPdus (FrameComes port sender to_group content)
content_spells port sender to_group (Labelled p following) is = tt
content_spells port sender to_group (Esis value following) is = tt
content_spells port sender to_group (Unlabelled octets) is = is

report_later : (copies more : List Copy) (u : DataUnit) → (u.kind ≡ Er → ReportsOnCopy copies u) → u.kind ≡ Er → ReportsOnCopy (copies ++ more) u
report_later copies more u h er =
    let it = h er in
    record {
      packet = it.packet;
      following = it.following;
      stands = stands_later copies more it.packet it.following it.stands;
      report = it.report;
      source = it.source;
    }

abbrev Reports : List Copy → List DataUnit → Type 0
Reports copies units = AllByRecursion (λ (u : DataUnit). u.kind ≡ Er → ReportsOnCopy copies u) units

reports_later : (copies more : List Copy) (units : List DataUnit) → Reports copies units → Reports (copies ++ more) units
reports_later copies more units h =
    AllByRecursion-implies (λ (u : DataUnit). u.kind ≡ Er → ReportsOnCopy copies u) (λ (u : DataUnit). u.kind ≡ Er → ReportsOnCopy (copies ++ more) u)
    (report_later copies more) units h

-- a packet stands in one of some copies, whatever follows it there
abbrev StandsSomehow : List Copy → Packet → Type 0
StandsSomehow copies p = (following : List ℕ) × StandsInCopy copies p following

kept_stands : (copies : List Copy) (s : SystemState) (p : Packet) → Came copies s
    → Contains (map (λ (arrival : Arrival Packet). arrival.carried) (segments_in s.buffers)) p → StandsSomehow copies p
kept_stands copies s p came there =
    AllByRecursion-contains (StandsSomehow copies) (map (λ (arrival : Arrival Packet). arrival.carried) (segments_in s.buffers)) p there
    (AllByRecursion-mapped (CameInCopy copies) (StandsSomehow copies) (λ (arrival : Arrival Packet). arrival.carried) (segments_in s.buffers)
    (λ arrival h. (h.following, h.stands)) came)

at_hand_stands : (w : LabelledNetwork) (s : SystemState) (input : Input) (p : Packet) → ComesStanding w input → Came w.copies s → IsAtHand s input p → StandsSomehow w.copies p
at_hand_stands w s (FrameComes port sender to_group (Labelled came following)) p stands kept (inl same) =
    (following, subst (λ (q : Packet). StandsInCopy w.copies q following) (sym same) stands)
at_hand_stands w s (FrameComes port sender to_group (Labelled came following)) p stands kept (inr there) = kept_stands w.copies s p kept there
at_hand_stands w s (FrameComes port sender to_group (Esis value following)) p stands kept there = kept_stands w.copies s p kept there
at_hand_stands w s (FrameComes port sender to_group (Unlabelled octets)) p stands kept there = kept_stands w.copies s p kept there
at_hand_stands w s _ p stands kept there = kept_stands w.copies s p kept there

report_stands : (w : LabelledNetwork) (s : SystemState) (input : Input) → ComesStanding w input → Came w.copies s → (u : DataUnit) → ReportsOn s input u → u.kind ≡ Er
    → ReportsOnCopy w.copies u
report_stands w s input stands kept u on er =
    let it = on er in
    let somehow = at_hand_stands w s input it.0 stands kept it.1 in
    record {
      packet = it.0;
      following = somehow.0;
      stands = somehow.1;
      report = it.2;
      source = sym (it.2.destination ∙ it.3);
    }

-- what holds of a network without frames from outside
pub record AllStands (plan : Plan) (w : LabelledNetwork) : Type 0 where
  pub carried : AllIsCarried plan w
  pub came : KeepsWhatCame w
  pub spelled : AreSpelled w
  pub reports : ReportsStand w

-- what comes there
record ComesSoundly (w : LabelledNetwork) (input : Input) : Type 0 where
  fairly : ComesFairly w.units input
  standing : ComesStanding w input
  spells : SpellsPdus input

-- nothing comes from outside
abbrev NoFrame : List ℕ → List ℕ → Type 0
NoFrame sender octets = ⊥

module _ (laws : StepLaws) (plan : Plan) (fit : IsFit plan) where
  step_stands : (w : LabelledNetwork) (place : ℕ) (s : SystemState) (input : Input) → slice_get w.systems place ≡ Some s → ComesSoundly w input → IsOfNow w s input
      → AllStands plan w → Keeps (AllStands plan) AnyLine (takes_effect w place (step s input))
  step_stands w place s input there comes at k =
      let effect : Effect = step s input in
      let later : LabelledNetwork = (takes_effect w place effect).world in
      let more = effect_copies w place effect in
      let carried = step_is_carried laws plan fit w place s input there comes.fairly at k.carried in
      let came = step_came laws w place s input there comes.standing at k.came in
      let it : Came w.copies s = AllByRecursion-slice_get (Came w.copies) w.systems place s there k.came in
      let kept = (k.carried.each place s there).kept in
      let new : Reports w.copies effect.units =
      AllByRecursion-implies (ReportsOn s input) (λ (u : DataUnit). u.kind ≡ Er → ReportsOnCopy w.copies u) (report_stands w s input comes.standing it)
      effect.units (laws.steps.reports s input comes.fairly.0 comes.spells kept) in
      let all : Reports w.copies (w.units ++ effect.units) =
      AllByRecursion-append (λ (u : DataUnit). u.kind ≡ Er → ReportsOnCopy w.copies u) w.units effect.units k.reports new in
      record {
        world = record {
          carried = carried.world;
          came = came.world;
          spelled = effect_spelled w place effect k.spelled;
          reports = subst (Reports later.copies) (sym (effect_makes w place effect))
              (subst (λ (copies : List Copy). Reports copies (w.units ++ effect.units)) (sym more.1)
              (reports_later w.copies more.0 (w.units ++ effect.units) all));
        };
        lines = carried.lines;
      }

  frame_comes_soundly : (w : LabelledNetwork) (at : ℕ) (copy : Copy) → slice_get w.copies at ≡ Some copy → AllStands plan w → (v : LabelledNetwork) → Follows w v
      → (s : SystemState) → ComesSoundly v (frame_to s copy)
  frame_comes_soundly w at copy e k v follows s = record {
    fairly = frame_comes_fairly laws plan fit w at copy e k.carried v follows s;
    standing = frame_stands w at copy e v follows s;
    spells = content_spells (first_port copy s.configuration.role s.attached.ports) copy.sender (is_group copy.target) copy.content
        (AllByRecursion-slice_get (λ (c : Copy). IsSpelled c.content) w.copies at copy e k.spelled);
  }

  -- Each step keeps it, and its lines note only what P holds of, as all notes are of steps to which only PDUs come.
  each_stands : (P : Note → Type 0) → ((s : SystemState) (input : Input) → SpellsPdus input → AllByRecursion (NotesOnly P) (step s input).outputs)
      → ChangingIsFine (LineIs (λ name. P)) → EachStepKeeps ComesSoundly NoFrame (AllStands plan) (LineIs (λ name. P))
  each_stands P notes changing = record {
    steps = λ w place s input there comes at k. record {
      world = (step_stands w place s input there comes at k).world;
      lines = takes_effect_notes P w place (step s input) (notes s input comes.spells);
    };
    frames = frame_comes_soundly;
    moments = λ w now. record { fairly = (tt, tt, tt); standing = tt; spells = tt };
    restarts = λ w. record { fairly = (tt, tt, tt); standing = tt; spells = tt };
    congestion = λ w on. record { fairly = (tt, tt, tt); standing = tt; spells = tt };
    cursor = λ w next k. record {
      carried = record { made = refl; copies = k.carried.copies; each = k.carried.each; mtus = k.carried.mtus };
      came = k.came;
      spelled = k.spelled;
      reports = k.reports;
    };
    clock = λ w clock k. record {
      carried = record { made = refl; copies = k.carried.copies; each = k.carried.each; mtus = k.carried.mtus };
      came = k.came;
      spelled = k.spelled;
      reports = k.reports;
    };
    outside = λ w subnet sender target octets brought k. absurd brought;
    sizes = λ w subnet mtu takes k. record {
      carried = sizes_are_carried laws plan fit w subnet mtu (λ number. (takes number).fairly) k.carried;
      came = k.came;
      spelled = k.spelled;
      reports = k.reports;
    };
    injected = λ now copy subnet sender target. tt;
    fine = record {
      void = λ now name copy. tt;
      late = λ now name copy. tt;
      received = λ now name copy port. tt;
      lost = λ now copy. tt;
      nobody = λ now copy. tt;
    };
    changing = changing;
  }

  event_gives : (w : LabelledNetwork) (event : Event) → IsFitEvent plan event → InjectsNothing event → GivesOnly (ComesSoundly w) NoFrame event
  event_gives w (Send system from to body ask) is closed = record { fairly = ((is.formed, is.fair), tt, tt); standing = tt; spells = tt }
  event_gives w (Echo system from to body) is closed = record { fairly = ((is.formed.0, is.formed.1), tt, tt); standing = tt; spells = tt }
  event_gives w (Inject subnet from to octets) is closed = absurd closed
  event_gives w (Mtu subnet mtu) is closed = λ number. record { fairly = (tt, tt, is.said); standing = tt; spells = tt }
  event_gives w (Route system route) is closed = record { fairly = (tt, tt, is.changes.next); standing = tt; spells = tt }
  event_gives w (Unroute system prefix) is closed = record { fairly = (tt, tt, tt); standing = tt; spells = tt }
  event_gives w (Port system number subnet snpa) is closed = λ port mtu. record { fairly = (tt, tt, is.changes.address); standing = tt; spells = tt }
  event_gives w _ is closed = tt

  module _ (closed : IsClosed plan) where
    events_give : (w : LabelledNetwork) → AllByRecursion (GivesOnly (ComesSoundly w) NoFrame) plan.events
    events_give w =
        AllByRecursion-both (IsFitEvent plan) InjectsNothing (GivesOnly (ComesSoundly w) NoFrame) (event_gives w) plan.events (fit_events plan fit) closed

    module _ (P : Note → Type 0) (notes : (s : SystemState) (input : Input) → SpellsPdus input → AllByRecursion (NotesOnly P) (step s input).outputs)
        (changing : ChangingIsFine (LineIs (λ name. P))) where
      move_keeps : (w : LabelledNetwork) (move : Move) → AllStands plan w → Keeps (AllStands plan) (LineIs (λ name. P)) (after plan w move)
      move_keeps w move k =
          keeps-move ComesSoundly NoFrame (AllStands plan) (LineIs (λ name. P)) (each_stands P notes changing) plan events_give w move k

      -- so are the lines of whatever moves
      pub moves_note : (moves : List Move) (w : LabelledNetwork) → AllStands plan w
          → AllByRecursion (λ (entry : Entry). AllByRecursion (LineIs (λ name. P)) entry.lines) (entries_of plan w moves)
      moves_note [] w k = tt
      moves_note (move ∷ moves) w k =
          let this = move_keeps w move k in (this.lines, moves_note moves (after plan w move).world this.world)

    -- any note will do
    abbrev AnyNote : Note → Type 0
    AnyNote note = Unit {0}

    any_notes : (s : SystemState) (output : Output) → NotesOnly AnyNote output
    any_notes s (Transmits port target packet) = tt
    any_notes s (SendsEsis port target value) = tt
    any_notes s (Notes note) = tt

    pub move_stands : (w : LabelledNetwork) (move : Move) → AllStands plan w → AllStands plan (after plan w move).world
    move_stands w move k =
        (move_keeps AnyNote (λ s input spells. AllByRecursion-any (NotesOnly AnyNote) (any_notes s) (step s input).outputs)
        (record {
          port = λ now name number subnet snpa. tt;
          route = λ now name prefix. tt;
          unroute = λ now name prefix there. tt;
          resized = λ now subnet mtu. tt;
        })
        w move k).world

    pub first_stands : AllStands plan (first_world plan)
    first_stands = record {
      carried = first_is_carried laws plan fit;
      came = first_came plan.limits 0 plan.systems;
      spelled = tt;
      reports = tt;
    }

    pub all_stands : (moves : List Move) → AllStands plan (world_after plan (first_world plan) moves)
    all_stands moves = go moves (first_world plan) first_stands
      where
        go : (moves : List Move) (w : LabelledNetwork) → AllStands plan w → AllStands plan (world_after plan w moves)
        go [] w k = k
        go (move ∷ moves) w k = go moves (after plan w move).world (move_stands w move k)
