-- Each move keeps the world sound, and so does each series of moves.
use Rattle.clnp_machine.proofs.ClnpBase.Lists.{AllByRecursion-both, AllByRecursion-contains, AllByRecursion-from_places, AllByRecursion-implies, AllByRecursion-slice_get}
use Rattle.std.proofs.Common.{◌≡◌, ℕ, inl, inr, List, [], ◌∷◌, ◌++◌, append-nil, append_assoc, refl, subst, sym}
use Rattle.std.specs.Prelude.{slice_get, Option, None, Some}
use Rattle.std.specs.List.{AllByRecursion}
use Rattle.clnp_machine.specs.ClnpPlan.Journal.{Line, Noted}
use Rattle.clnp_machine.specs.ScenarioPlan.Plan.{InjectsNothing, Plan, IsClosed, IsFit, octets_of}
use Rattle.clnp_machine.specs.ScenarioPlan.Standing.{AreTogether}
use Rattle.clnp_machine.specs.ClnpPlan.declared.scenario_plan.event.Event.{Event}
use Rattle.clnp_machine.specs.ClnpPlan.declared.scenario_plan.event.Event.TheVariants.{Send, Echo, Deliver, Settle, Lose, Tick, Restart, Congest, Inject, Mtu, Route, Unroute, Port}
use Rattle.clnp_machine.specs.ClnpPlan.declared.scenario_plan.event.Event.TheVariants as event
use Rattle.clnp_machine.specs.ClnpPlan.declared.scenario_plan.event.Move.{Move}
use Rattle.clnp_machine.specs.ClnpPlan.declared.scenario_plan.event.Move.TheVariants.{One, SettleOne, LoseOne, TickOne, TickSystem}
use Rattle.clnp_machine.specs.Unit.{DataUnit, Outside, Packet}
use Rattle.clnp_machine.specs.Content.{Content, Labelled, Esis, Unlabelled}
use Rattle.clnp_machine.specs.System.{SystemState}
use Rattle.clnp_machine.specs.EveryStep.{IsRangeOf, segments_in}
use Rattle.clnp_machine.specs.Told.{NotesNoRule}
use Rattle.clnp_machine.proofs.Gained.{each_kept}
use Rattle.clnp_machine.specs.Reassembly.Arrival.{Arrival}
use Rattle.clnp_machine.specs.Reassembly.Buffer.{Buffer}
use Rattle.clnp_machine.specs.ClnpNetwork.LabelledNetwork.{LabelledNetwork, Copy, after, event_happens, deliver, settle_one, lose_one, tick_one, tick_system, first_world}
use Rattle.clnp_machine.specs.ClnpNetwork.Clocks.{StayTogether, StaysTogether, clocks_after, clocks_of}
use Rattle.clnp_machine.specs.ClnpNetwork.Run.{Entry, entries_of, moves_made, run, world_after}
use Rattle.clnp_machine.specs.ClnpNetwork.Safe.{AsksFor, CameInCopy, CarriesRanges, EachIsFounded, EachWasSent, FramesAreUnbroken, HoldsOneUnit, HoldsUnitsApart, IsHonest, IsSegmentOf, IsSend, IsUnbroken, NoInterference, RangeIn, ReportsStand, StandsInCopy, TellsNoRule}
use Rattle.clnp_safety.specs.Invariant.{BufferIsSound, Carries, CopyIsSound, IsOfUnit, NetworkIsSound, WorldIsSound}
use Rattle.clnp_safety.specs.Outside.{HasItsMaker, OutsideOrRange, PduIsUnbroken}
use Rattle.clnp_safety.specs.StepLaws.{StepLaws}
use Rattle.clnp_safety.proofs.Carried.{pdus_are_unbroken, ranges_or_outside}
use Rattle.clnp_safety.proofs.Clocks.{clocks_then}
use Rattle.clnp_safety.proofs.Traced.{makers_are_known}
use Rattle.clnp_safety.proofs.Lines.{LineIs, LinesAreSound, lines_are_apart, lines_are_founded, lines_are_honest}
use Rattle.clnp_safety.proofs.Moves.{MoveIsSound, kept_is_sound, nothing_is_sound, with_clocks}
use Rattle.clnp_safety.proofs.Settles.{settle_one_is_sound, deliver_is_sound, lose_one_is_sound}
use Rattle.clnp_safety.proofs.Restarting.{restarted_is_sound}
use Rattle.clnp_safety.proofs.Changing.{port_moves_soundly, route_goes_soundly, route_is_set_soundly, subnetwork_takes_soundly}
use Rattle.clnp_safety.proofs.Congesting.{congested_is_sound}
use Rattle.clnp_safety.proofs.Events.{IsFitEvent, fit_event}
use Rattle.clnp_safety.proofs.Ticks.{tick_one_is_sound, tick_system_is_sound}
use Rattle.clnp_safety.proofs.Asked.{echo_is_asked, system_is_asked}
use Rattle.clnp_safety.proofs.Opens.{first_world_is_sound}
use Rattle.clnp_safety.proofs.Standing.{AllStands, all_stands, first_stands, move_stands, moves_note}

-- an event of a fit plan without frames from outside
record IsOfFitPlan (plan : Plan) (event : Event) : Type 0 where
  is : IsFitEvent plan event
  closed : InjectsNothing event

module _ (laws : StepLaws) (plan : Plan) (fit : IsFit plan) (closed : IsClosed plan) where
  module _ (past : List Entry) (w : LabelledNetwork) (h : WorldIsSound plan past w) (stood : ReportsStand w) where
    event_is_sound : (move : Move) (asked : Option Event) → ((event : Event) → asked ≡ Some event → IsOfFitPlan plan event)
        → ((from to octets : List ℕ) → AsksFor asked from to octets → IsSend plan move from to octets)
        → MoveIsSound plan past move w (event_happens plan.subnets plan.limits w asked)
    event_is_sound move None fair asks = nothing_is_sound plan past move w h
    event_is_sound move (Some (Settle count)) fair asks = nothing_is_sound plan past move w h
    event_is_sound move (Some (Lose count)) fair asks = nothing_is_sound plan past move w h
    event_is_sound move (Some (Tick count)) fair asks = nothing_is_sound plan past move w h
    event_is_sound move (Some (event.TickSystem system count)) fair asks = nothing_is_sound plan past move w h
    event_is_sound move (Some (Deliver copy system)) fair asks =
        kept_is_sound plan past move w (deliver plan.limits w copy system) (deliver_is_sound laws plan fit past w h stood copy system)
    event_is_sound move (Some (Restart system)) fair asks = restarted_is_sound laws plan fit past move w h system
    event_is_sound move (Some (Congest system on)) fair asks = congested_is_sound laws plan fit past move w h system on
    event_is_sound move (Some (Send system from to body ask)) fair asks =
        let is = (fair (Send system from to body ask) refl).is in
        system_is_asked laws plan fit past move w h system from to (octets_of body) ask (is.formed, is.fair) (asks from to (octets_of body) (refl, refl, refl))
    event_is_sound move (Some (Echo system from to body)) fair asks =
        let is = (fair (Echo system from to body) refl).is.formed in
        echo_is_asked laws plan fit past move w h system from to (octets_of body) (is.0, is.1) is.2
    event_is_sound move (Some (Inject subnet from to octets)) fair asks = absurd (fair (Inject subnet from to octets) refl).closed
    event_is_sound move (Some (Mtu subnet mtu)) fair asks =
        subnetwork_takes_soundly laws plan fit past move w h subnet mtu (fair (Mtu subnet mtu) refl).is.said
    event_is_sound move (Some (Route system route)) fair asks =
        route_is_set_soundly laws plan fit past move w h system route (fair (Route system route) refl).is.changes.next
    event_is_sound move (Some (Unroute system prefix)) fair asks = route_goes_soundly laws plan fit past move w h system prefix
    event_is_sound move (Some (Port system number subnet snpa)) fair asks =
        port_moves_soundly laws plan fit past move w h system number subnet snpa (fair (Port system number subnet snpa) refl).is.changes.address

    event_is_fair : (place : ℕ) (event : Event) → slice_get plan.events place ≡ Some event → IsOfFitPlan plan event
    event_is_fair place event there = record {
      is = fit_event plan fit place event there;
      closed = AllByRecursion-slice_get InjectsNothing plan.events place event there closed;
    }

    pub move_is_sound : (move : Move) → MoveIsSound plan past move w (after plan w move)
    move_is_sound (One place) = event_is_sound (One place) (slice_get plan.events place) (event_is_fair place) (λ from to octets asked. asked)
    move_is_sound SettleOne = kept_is_sound plan past SettleOne w (settle_one plan.limits w) (settle_one_is_sound laws plan fit past w h stood)
    move_is_sound LoseOne = kept_is_sound plan past LoseOne w (lose_one w) (lose_one_is_sound laws plan fit past w h stood)
    move_is_sound TickOne = kept_is_sound plan past TickOne w (tick_one w) (tick_one_is_sound laws plan fit past w h)
    move_is_sound (TickSystem place) =
        kept_is_sound plan past (TickSystem place) w (tick_system w place) (tick_system_is_sound laws plan fit past w h place)

    -- the entry of a move, with those before it
    abbrev pub with_entry : Move → List Entry
    with_entry move = past ++ record { move = move; lines = (after plan w move).lines } ∷ []

    -- the world after a move that leaves clocks together
    next_is_sound : (move : Move) → AreTogether plan.limits.skew (clocks_after (clocks_of w) move) → WorldIsSound plan (with_entry move) (after plan w move).world
    next_is_sound move together =
        with_clocks plan (with_entry move) (after plan w move).world (move_is_sound move).world
        (subst (AreTogether plan.limits.skew) (sym (clocks_then laws plan w move)) together)

  -- clocks stay together from a world on
  abbrev Stay : LabelledNetwork → List Move → Type 0
  Stay w moves = StayTogether plan.limits.skew (clocks_of w) moves

  stay_next : (w : LabelledNetwork) (move : Move) (moves : List Move) → Stay w (move ∷ moves) → Stay (after plan w move).world moves
  stay_next w move moves stay = subst (λ clocks. StayTogether plan.limits.skew clocks moves) (sym (clocks_then laws plan w move)) stay.1

  moves_are_honest : (moves : List Move) (past : List Entry) (w : LabelledNetwork) → WorldIsSound plan past w
      → AllStands plan w → Stay w moves → EachWasSent plan past (entries_of plan w moves)
  moves_are_honest [] past w h k stay = tt
  moves_are_honest (move ∷ moves) past w h k stay = (
    lines_are_honest plan past w (after plan w move).lines (move_is_sound past w h k.reports move).lines,
    moves_are_honest moves (with_entry past w h k.reports move) (after plan w move).world (next_is_sound past w h k.reports move stay.0)
        (move_stands laws plan fit closed w move k) (stay_next w move moves stay),
  )

  moves_are_founded : (moves : List Move) (past : List Entry) (w : LabelledNetwork) → WorldIsSound plan past w → AllStands plan w → Stay w moves
      → EachIsFounded plan w past moves
  moves_are_founded [] past w h k stay = tt
  moves_are_founded (move ∷ moves) past w h k stay = (
    lines_are_founded plan past w (after plan w move).lines (move_is_sound past w h k.reports move).lines,
    moves_are_founded moves (with_entry past w h k.reports move) (after plan w move).world (next_is_sound past w h k.reports move stay.0)
        (move_stands laws plan fit closed w move k) (stay_next w move moves stay),
  )

  -- what follows of the lines of each move holds of all entries
  module _ (Q : List Line → Type 0)
      (follows : (past : List Entry) (w : LabelledNetwork) (lines : List Line) → LinesAreSound plan past w lines → Q lines) where
    moves_are : (moves : List Move) (past : List Entry) (w : LabelledNetwork) → WorldIsSound plan past w → AllStands plan w → Stay w moves
        → AllByRecursion (λ (entry : Entry). Q entry.lines) (entries_of plan w moves)
    moves_are [] past w h k stay = tt
    moves_are (move ∷ moves) past w h k stay = (
      follows past w (after plan w move).lines (move_is_sound past w h k.reports move).lines,
      moves_are moves (with_entry past w h k.reports move) (after plan w move).world (next_is_sound past w h k.reports move stay.0)
          (move_stands laws plan fit closed w move k) (stay_next w move moves stay),
    )

  -- a world that moves lead to is sound beside their entries
  moves_are_sound : (moves : List Move) (past : List Entry) (w : LabelledNetwork) → WorldIsSound plan past w → AllStands plan w → Stay w moves
      → WorldIsSound plan (past ++ entries_of plan w moves) (world_after plan w moves)
  moves_are_sound [] past w h k stay = subst (λ entries. WorldIsSound plan entries w) (sym (append-nil past)) h
  moves_are_sound (move ∷ moves) past w h k stay =
      let next = (after plan w move).world in
      let entry : Entry = record { move = move; lines = (after plan w move).lines } in
      subst (λ entries. WorldIsSound plan entries (world_after plan next moves)) (append_assoc past (entry ∷ []) (entries_of plan next moves))
      (moves_are_sound moves (with_entry past w h k.reports move) next (next_is_sound past w h k.reports move stay.0)
      (move_stands laws plan fit closed w move k) (stay_next w move moves stay))

pub each_was_sent : StepLaws → (plan : Plan) → IsFit plan → IsClosed plan → (moves : List Move) → StaysTogether plan moves
    → EachWasSent plan [] (entries_of plan (first_world plan) moves)
each_was_sent laws plan fit closed moves stay =
    moves_are_honest laws plan fit closed moves [] (first_world plan) (first_world_is_sound laws plan fit) (first_stands laws plan fit closed) stay

pub run_is_honest : StepLaws → (plan : Plan) → IsFit plan → IsClosed plan → StaysTogether plan (moves_made plan) → IsHonest plan (run plan)
run_is_honest laws plan fit closed stay = each_was_sent laws plan fit closed (moves_made plan) stay

pub each_is_founded : StepLaws → (plan : Plan) → IsFit plan → IsClosed plan → (moves : List Move) → StaysTogether plan moves
    → EachIsFounded plan (first_world plan) [] moves
each_is_founded laws plan fit closed moves stay =
    moves_are_founded laws plan fit closed moves [] (first_world plan) (first_world_is_sound laws plan fit) (first_stands laws plan fit closed) stay

pub none_interferes : StepLaws → (plan : Plan) → IsFit plan → IsClosed plan → (moves : List Move) → StaysTogether plan moves
    → AllByRecursion (λ (entry : Entry). NoInterference entry.lines) (entries_of plan (first_world plan) moves)
none_interferes laws plan fit closed moves stay =
    moves_are laws plan fit closed NoInterference (λ past w lines is. lines_are_apart plan past w lines is) moves [] (first_world plan)
    (first_world_is_sound laws plan fit) (first_stands laws plan fit closed) stay

line_tells_no_rule : (line : Line) → LineIs (λ name. NotesNoRule) line → TellsNoRule line
line_tells_no_rule (Noted now name note) is = is
line_tells_no_rule _ is = tt

-- however the clocks stand
pub none_is_refused : StepLaws → (plan : Plan) → IsFit plan → IsClosed plan → (moves : List Move)
    → AllByRecursion (λ (entry : Entry). AllByRecursion TellsNoRule entry.lines) (entries_of plan (first_world plan) moves)
none_is_refused laws plan fit closed moves =
    AllByRecursion-implies (λ (entry : Entry). AllByRecursion (LineIs (λ name. NotesNoRule)) entry.lines)
    (λ (entry : Entry). AllByRecursion TellsNoRule entry.lines)
    (λ entry lines. AllByRecursion-implies (LineIs (λ name. NotesNoRule)) TellsNoRule line_tells_no_rule entry.lines lines)
    (entries_of plan (first_world plan) moves)
    (moves_note laws plan fit closed NotesNoRule laws.steps.no_rule
    (record {
      port = λ now name number subnet snpa. tt;
      route = λ now name prefix. tt;
      unroute = λ now name prefix there. tt;
      resized = λ now subnet mtu. tt;
    })
    moves (first_world plan) (first_stands laws plan fit closed))

-- What is so of each world of a run.

pub last_is_sound : StepLaws → (plan : Plan) → IsFit plan → IsClosed plan → (moves : List Move) → StaysTogether plan moves
    → WorldIsSound plan (entries_of plan (first_world plan) moves) (world_after plan (first_world plan) moves)
last_is_sound laws plan fit closed moves stay =
    moves_are_sound laws plan fit closed moves [] (first_world plan) (first_world_is_sound laws plan fit) (first_stands laws plan fit closed) stay

pub network_is_sound : StepLaws → (plan : Plan) → IsFit plan → IsClosed plan → (moves : List Move) → StaysTogether plan moves
    → NetworkIsSound plan (entries_of plan (first_world plan) moves) (world_after plan (first_world plan) moves)
network_is_sound laws plan fit closed moves stay =
    let stands = all_stands laws plan fit closed moves in
    record { world = last_is_sound laws plan fit closed moves stay; kept = stands.came; reports = stands.reports }

-- Nothing was made outside, so each copy carries a range of a unit, or an ES-IS PDU.
not_outside : (plan : Plan) → IsClosed plan → (copies : List Copy) (copy : Copy) → HasItsMaker plan copies copy → copy.maker ≡ Outside → ⊥
not_outside plan closed copies copy has outside =
    let it = (has.outside outside).outside.brought in
    AllByRecursion-contains InjectsNothing plan.events (Inject it.subnet (has.outside outside).first.sender it.target (has.outside outside).outside.octets)
    it.there closed

range_of_copy : (plan : Plan) → IsClosed plan → (units : List DataUnit) (copies : List Copy) (copy : Copy) → OutsideOrRange units copy
    → HasItsMaker plan copies copy → RangeIn units copy.birth copy.content
range_of_copy plan closed units copies copy is has =
    elim is [ inl outside ↦ absurd (not_outside plan closed copies copy has outside) | inr range ↦ range ]

pub ranges_are_carried : StepLaws → (plan : Plan) → IsFit plan → IsClosed plan → (moves : List Move) → CarriesRanges (world_after plan (first_world plan) moves)
ranges_are_carried laws plan fit closed moves =
    let w = world_after plan (first_world plan) moves in
    AllByRecursion-both (OutsideOrRange w.units) (HasItsMaker plan w.copies) (λ (copy : Copy). RangeIn w.units copy.birth copy.content)
    (range_of_copy plan closed w.units w.copies) w.copies (ranges_or_outside laws plan fit moves) (makers_are_known laws plan moves)

unbroken : (units : List DataUnit) (birth : ℕ) (content : Content) → RangeIn units birth content → PduIsUnbroken content → IsUnbroken content
unbroken units birth (Labelled packet following) range is = is
unbroken units birth (Esis value following) range is = (is, range.1)
unbroken units birth (Unlabelled octets) range is = absurd range

pub frames_are_unbroken : StepLaws → (plan : Plan) → IsFit plan → IsClosed plan → (moves : List Move) → FramesAreUnbroken (world_after plan (first_world plan) moves)
frames_are_unbroken laws plan fit closed moves =
    let w = world_after plan (first_world plan) moves in
    AllByRecursion-both (λ (copy : Copy). RangeIn w.units copy.birth copy.content) (λ (copy : Copy). PduIsUnbroken copy.content)
    (λ (copy : Copy). IsUnbroken copy.content) (λ copy range is. unbroken w.units copy.birth copy.content range is) w.copies
    (ranges_are_carried laws plan fit closed moves) (pdus_are_unbroken laws plan fit moves)

-- what a system keeps of a unit stands in copies that carry nothing behind it
module _ (units : List DataUnit) (copies : List Copy) (sound : AllByRecursion (CopyIsSound units) copies) where
  segment_stands : (u : DataUnit) (arrival : Arrival Packet) → IsOfUnit units u arrival → CameInCopy copies arrival → IsSegmentOf copies u arrival
  segment_stands u arrival of came =
      let carrier = AllByRecursion-contains (CopyIsSound units) copies came.stands.copy came.stands.there sound in
      let carried : IsRangeOf units arrival.carried × (came.following ≡ []) = subst (Carries (IsRangeOf units)) came.stands.carries carrier.carries in
      record { unit = of.unit; stands = subst (StandsInCopy copies arrival.carried) carried.1 came.stands }

  one_unit : (plan : Plan) (buffer : Buffer Packet) → BufferIsSound plan units buffer → AllByRecursion (CameInCopy copies) buffer.kept
      → HoldsOneUnit units copies buffer
  one_unit plan buffer h came =
      (h.unit, h.made, AllByRecursion-both (IsOfUnit units h.unit) (CameInCopy copies) (IsSegmentOf copies h.unit) (segment_stands h.unit) buffer.kept h.kept came)

pub units_are_held_apart : StepLaws → (plan : Plan) → IsFit plan → IsClosed plan → (moves : List Move) → StaysTogether plan moves
    → HoldsUnitsApart (world_after plan (first_world plan) moves)
units_are_held_apart laws plan fit closed moves stay =
    let w = world_after plan (first_world plan) moves in
    let sound = last_is_sound laws plan fit closed moves stay in
    let came = (all_stands laws plan fit closed moves).came in
    AllByRecursion-from_places (λ (system : SystemState). AllByRecursion (HoldsOneUnit w.units w.copies) system.buffers) w.systems
    (λ place s there.
    AllByRecursion-both (BufferIsSound plan w.units) (λ (b : Buffer Packet). AllByRecursion (CameInCopy w.copies) b.kept) (HoldsOneUnit w.units w.copies)
    (one_unit w.units w.copies sound.copies plan) s.buffers (sound.systems.each place s there).sound.buffers
    (each_kept (CameInCopy w.copies) s.buffers
    (AllByRecursion-slice_get (λ (system : SystemState). AllByRecursion (CameInCopy w.copies) (segments_in system.buffers)) w.systems place s there came)))
