-- The clocks of a network are what its moves make of them.
use Rattle.clnp_machine.proofs.ClnpBase.ListSteps.{map_set, slice_get_map}
use Rattle.clnp_machine.proofs.ClnpBase.Lists.{AllByRecursion-any, AllByRecursion-append, AllByRecursion-from_places, AllByRecursion-slice_get}
use Rattle.std.proofs.Common.{◌≡◌, ◌∙◌, refl, sym, ap, subst, ℕ, zero, suc, ◌+◌, ◌≤◌, inl, inr, List, [], ◌∷◌, ◌++◌, length, map, Option, None, Some, arith}
use Rattle.std.specs.Prelude.{max, option_map, replicate, slice_get, slice_set}
use Rattle.std.specs.List.{AllByRecursion, range_with_len}
use Rattle.std.proofs.lemmas.List.{length-map}
use Rattle.std.proofs.lemmas.Option.{slice_get-map}
use Rattle.clnp_machine.specs.ScenarioPlan.Plan.{IsFit, IsOfVersion1, Plan, Subnetwork, moves_from, moves_of, octets_of}
use Rattle.clnp_machine.specs.ScenarioPlan.Standing.{AreTogether, EachMayCome, MayCome, Standing, changed_at, first_clocks, standing_after, standing_of}
use Rattle.clnp_machine.specs.ClnpPlan.declared.scenario_plan.event.Event.{Event}
use Rattle.clnp_machine.specs.ClnpPlan.declared.scenario_plan.event.Event.TheVariants as event
use Rattle.clnp_machine.specs.ClnpPlan.declared.scenario_plan.event.Event.TheVariants.{Send, Echo, Deliver, Settle, Lose, Tick, Restart, Congest, Inject, Mtu, Route, Unroute, Port}
use Rattle.clnp_machine.specs.ClnpPlan.declared.scenario_plan.event.Move.{Move}
use Rattle.clnp_machine.specs.ClnpPlan.declared.scenario_plan.event.Move.TheVariants.{One, SettleOne, LoseOne, TickOne, TickSystem}
use Rattle.clnp_machine.specs.ClnpPlan.Configuration.{SystemConfiguration}
use Rattle.clnp_machine.specs.ClnpPlan.declared.config.Limits.{Limits}
use Rattle.clnp_machine.specs.Change.{PortIsAt, PortTakes, RouteIsGone, RouteIsSet}
use Rattle.clnp_machine.specs.System.{SystemState, Input, AsksToSend, AsksForEcho, MomentComes, IsRestarted, IsCongested, IsChanged, Output, Transmits, SendsEsis, Notes, Effect}
use Rattle.clnp_machine.specs.Step.{step}
use Rattle.clnp_machine.specs.EveryStep.{moment_after}
use Rattle.clnp_machine.specs.ClnpNetwork.LabelledNetwork.{LabelledNetwork, Copy, Numbered, addressees_from, after, comes, comes_to, event_happens, first_world, frame_to, goes_on, lose_copy, moved, put_out, settle_copy, states_from, takes_effect, tick_alone, tick_each, with_effect}
use Rattle.clnp_machine.specs.ClnpNetwork.Clocks.{AreCurrent, NoneIsAhead, StayTogether, StaysTogether, TickTogether, TicksForAll, clock_after, clock_with, clocks_after, clocks_of}
use Rattle.clnp_machine.specs.ClnpNetwork.Run.{moves_made, moves_of_plan, world_after}
use Rattle.clnp_machine.proofs.ClnpNetwork.Sweeps.{change_at, sweep, sweep_all}
use Rattle.clnp_safety.specs.Growth.{IsFront}
use Rattle.clnp_safety.specs.StepLaws.{StepLaws}
use Rattle.clnp_safety.proofs.Together.{all_together, mapped_from, one_together, settles_stay, stay_front, ticking_alone_stays, ticks_stay, ticks_together, was_there}
use Rattle.clnp_safety.proofs.Lines.{AnyLine, any_line_changes, any_line_is_fine}
use Rattle.clnp_safety.proofs.Redirects.{systems_after}
use Rattle.clnp_safety.proofs.Steps.{Keeps, keeps-asks, keeps-comes_to, keeps-deliver, keeps-give_each, keeps-injects, keeps-moves_port, keeps-nothing, keeps-put_all_out, keeps-removes_route, keeps-resizes, keeps-sets_route, keeps-settle_for}
use Rattle.clnp_safety.proofs.Stops.{made_are_first}

map_with : {X Y : Type 0} (f : X → Y) (xs : List X) (place : ℕ) (x : X) → map f (slice_set xs place x) ≡ slice_set (map f xs) place (f x)
map_with f [] place x = refl
map_with f (y ∷ xs) zero x = refl
map_with f (y ∷ xs) (suc place) x = ap (λ ys. f y ∷ ys) (map_with f xs place x)

-- What moves leave.

-- the clocks and the network's clock are these
record HasClocks (clocks : List ℕ) (clock : ℕ) (w : LabelledNetwork) : Type 0 where
  systems : clocks_of w ≡ clocks
  network : w.clock ≡ clock

-- what comes leaves a system's moment
abbrev LeavesMoments : Input → Type 0
LeavesMoments input = (s : SystemState) → moment_after s input ≡ s.moment

put_out_clock : (clock : ℕ) (system : SystemState) (output : Output) (v : LabelledNetwork) → v.clock ≡ clock
    → Keeps (λ (later : LabelledNetwork). later.clock ≡ clock) AnyLine (put_out system v output)
put_out_clock clock system (Notes note) v same = record { world = same; lines = (tt, tt) }
put_out_clock clock system (Transmits port target packet) v same = record { world = same; lines = (tt, tt) }
put_out_clock clock system (SendsEsis port target value) v same = record { world = same; lines = (tt, tt) }

-- a system that takes a step leaves the network's clock
effect_clock : (w : LabelledNetwork) (place : ℕ) (effect : Effect) → (takes_effect w place effect).world.clock ≡ w.clock
effect_clock w place effect =
    (keeps-put_all_out (λ (v : LabelledNetwork). v.clock ≡ w.clock) AnyLine effect.after effect.outputs
    (AllByRecursion-any (λ output. (v : LabelledNetwork) → v.clock ≡ w.clock → Keeps (λ (later : LabelledNetwork). later.clock ≡ w.clock) AnyLine (put_out effect.after v output))
    (put_out_clock w.clock effect.after) effect.outputs)
    (with_effect w place effect) refl).world

-- the machine's law on moments
abbrev pub OnMoments : Type 0
OnMoments = (s : SystemState) (input : Input) → (step s input).after.moment ≡ moment_after s input

module _ (law : OnMoments) where
  effect_clocks : (w : LabelledNetwork) (place : ℕ) (s : SystemState) (input : Input)
      → clocks_of (takes_effect w place (step s input)).world ≡ slice_set (clocks_of w) place (moment_after s input)
  effect_clocks w place s input =
      ap (map (λ (t : SystemState). t.moment)) (systems_after w place (step s input))
      ∙ map_with (λ (t : SystemState). t.moment) w.systems place (step s input).after
      ∙ ap (slice_set (clocks_of w) place) (law s input)

  step_leaves : (clocks : List ℕ) (clock : ℕ) (w : LabelledNetwork) (place : ℕ) (s : SystemState) (input : Input) → slice_get w.systems place ≡ Some s
      → LeavesMoments input → HasClocks clocks clock w → Keeps (HasClocks clocks clock) AnyLine (takes_effect w place (step s input))
  step_leaves clocks clock w place s input there leaves k =
      let taken = takes_effect w place (step s input) in
      record {
        world = record {
          systems = ap (map (λ (t : SystemState). t.moment)) (systems_after w place (step s input))
              ∙ map_set (λ (t : SystemState). t.moment) w.systems place s (step s input).after there (law s input ∙ leaves s)
              ∙ k.systems;
          network = effect_clock w place (step s input) ∙ k.network;
        };
        lines = AllByRecursion-any AnyLine (λ line. tt) taken.lines;
      }

  -- Moves but ticks leave all clocks.
  module _ (clocks : List ℕ) (clock : ℕ) where
    abbrev Has : LabelledNetwork → Type 0
    Has = HasClocks clocks clock

    comes_leaves : (w : LabelledNetwork) (place : ℕ) (input : Input) → LeavesMoments input → Has w → Keeps Has AnyLine (comes w place input)
    comes_leaves w place input leaves k =
        keeps-comes_to Has AnyLine w place input (slice_get w.systems place) (λ none. k) (λ s there. step_leaves clocks clock w place s input there leaves k)

    frame_leaves : (copy : Copy) (w : LabelledNetwork) (place : ℕ) → Has w → (s : SystemState) → slice_get w.systems place ≡ Some s
        → Keeps Has AnyLine (takes_effect w place (step s (frame_to s copy)))
    frame_leaves copy w place k s there = step_leaves clocks clock w place s (frame_to s copy) there (λ t. refl) k

    event_leaves : (subnets : List Subnetwork) (limits : Limits) (w : LabelledNetwork) (asked : Option Event) → Has w → Keeps Has AnyLine (event_happens subnets limits w asked)
    event_leaves subnets limits w None k = keeps-nothing Has AnyLine w k
    event_leaves subnets limits w (Some (Settle count)) k = keeps-nothing Has AnyLine w k
    event_leaves subnets limits w (Some (Lose count)) k = keeps-nothing Has AnyLine w k
    event_leaves subnets limits w (Some (Tick count)) k = keeps-nothing Has AnyLine w k
    event_leaves subnets limits w (Some (event.TickSystem system count)) k = keeps-nothing Has AnyLine w k
    event_leaves subnets limits w (Some (Deliver number place)) k =
        keeps-deliver Has AnyLine any_line_is_fine limits w number place k (λ copy e s there soon. frame_leaves copy w place k s there)
    event_leaves subnets limits w (Some (Restart system)) k = comes_leaves w system IsRestarted (λ s. refl) k
    event_leaves subnets limits w (Some (Congest system on)) k = comes_leaves w system (IsCongested on) (λ s. refl) k
    event_leaves subnets limits w (Some (Echo system from to body)) k = comes_leaves w system (AsksForEcho from to (octets_of body)) (λ s. refl) k
    event_leaves subnets limits w (Some (Send system from to body ask)) k =
        let asked = AsksToSend from to (octets_of body) ask in
        keeps-asks Has AnyLine w system asked k (comes_leaves w system asked (λ s. refl) k)
    event_leaves subnets limits w (Some (Inject subnet from to octets)) k =
        keeps-injects Has AnyLine w subnet from to octets k (record { systems = k.systems; network = k.network }) (λ now copy name sender target. tt) subnets
    event_leaves subnets limits w (Some (Mtu subnet mtu)) k =
        keeps-resizes Has AnyLine any_line_changes subnet mtu
        (λ v place number h. comes_leaves v place (IsChanged (PortTakes number mtu)) (λ s. refl) h) subnets w k
        (record { systems = k.systems; network = k.network })
    event_leaves subnets limits w (Some (Route system route)) k =
        keeps-sets_route Has AnyLine any_line_changes w system k route
        (λ s there leads. comes_leaves w system (IsChanged (RouteIsSet route)) (λ t. refl) k)
    event_leaves subnets limits w (Some (Unroute system prefix)) k =
        keeps-removes_route Has AnyLine any_line_changes w system k prefix
        (comes_leaves w system (IsChanged (RouteIsGone prefix)) (λ t. refl) k)
    event_leaves subnets limits w (Some (Port system number subnet snpa)) k =
        keeps-moves_port Has AnyLine any_line_changes w system k number subnet snpa subnets
        (λ s port mtu there has takes. comes_leaves w system (IsChanged (PortIsAt number (moved port subnet mtu snpa))) (λ t. refl) k)

    settle_leaves : (limits : Limits) (w : LabelledNetwork) (found : Option Copy) → Has w → Keeps Has AnyLine (settle_copy limits w found)
    settle_leaves limits w None k = keeps-nothing Has AnyLine w k
    settle_leaves limits w (Some copy) k =
        let given : Numbered = record { number = w.cursor + 1; copy = copy } in
        let places = addressees_from 0 copy w.systems in
        let first : LabelledNetwork = record w { cursor = w.cursor + 1 } in
        keeps-settle_for Has AnyLine any_line_is_fine limits given first places
        (keeps-give_each Has AnyLine any_line_is_fine limits given places (λ v place h s there soon. frame_leaves copy v place h s there) first
        (record { systems = k.systems; network = k.network }))

    lose_leaves : (w : LabelledNetwork) (found : Option Copy) → Has w → Has (lose_copy w found).world
    lose_leaves w None k = k
    lose_leaves w (Some copy) k = record { systems = k.systems; network = k.network }

  -- Ticks.

  -- the clock at a place goes on, where there is one
  abbrev with_next : ℕ → List ℕ → List ℕ
  with_next place clocks = change_at (λ clock. clock + 1) place (slice_get clocks place) clocks

  goes_on_clocks : (w : LabelledNetwork) (place : ℕ) (found : Option SystemState) → slice_get w.systems place ≡ found
      → clocks_of (goes_on w place found).world ≡ with_next place (clocks_of w)
  goes_on_clocks w place None e =
      let none : slice_get (clocks_of w) place ≡ None =
      slice_get-map (λ (t : SystemState). t.moment) w.systems place ∙ ap (option_map (λ (t : SystemState). t.moment)) e in
      ap (λ found. change_at (λ clock. clock + 1) place found (clocks_of w)) (sym none)
  goes_on_clocks w place (Some s) e =
      ap (λ (found : Option SystemState). clocks_of (comes_to w place (MomentComes (s.moment + 1)) found).world) e
      ∙ effect_clocks w place s (MomentComes (s.moment + 1))
      ∙ ap (λ found. change_at (λ clock. clock + 1) place found (clocks_of w)) (sym (slice_get_map (λ (t : SystemState). t.moment) w.systems place s e))

  goes_on_clock : (w : LabelledNetwork) (place : ℕ) (found : Option SystemState) → slice_get w.systems place ≡ found → (goes_on w place found).world.clock ≡ w.clock
  goes_on_clock w place None e = refl
  goes_on_clock w place (Some s) e =
      ap (λ (found : Option SystemState). (comes_to w place (MomentComes (s.moment + 1)) found).world.clock) e
      ∙ effect_clock w place (step s (MomentComes (s.moment + 1)))

  tick_each_clocks : (places : List ℕ) (w : LabelledNetwork) → clocks_of (tick_each w places).world ≡ sweep (λ clock. clock + 1) places (clocks_of w)
  tick_each_clocks [] w = refl
  tick_each_clocks (place ∷ places) w =
      tick_each_clocks places (goes_on w place (slice_get w.systems place)).world
      ∙ ap (sweep (λ clock. clock + 1) places) (goes_on_clocks w place (slice_get w.systems place) refl)

  tick_each_clock : (places : List ℕ) (w : LabelledNetwork) → (tick_each w places).world.clock ≡ w.clock
  tick_each_clock [] w = refl
  tick_each_clock (place ∷ places) w =
      tick_each_clock places (goes_on w place (slice_get w.systems place)).world ∙ goes_on_clock w place (slice_get w.systems place) refl

  alone_clocks : (w : LabelledNetwork) (place : ℕ) (found : Option SystemState) → slice_get w.systems place ≡ found
      → clocks_of (tick_alone w place found).world ≡ with_next place (clocks_of w)
  alone_clocks w place None e = goes_on_clocks w place None e
  alone_clocks w place (Some s) e = goes_on_clocks (record w { clock = max w.clock (s.moment + 1) }) place (Some s) e

  alone_clock : (w : LabelledNetwork) (place : ℕ) (found : Option SystemState) → slice_get w.systems place ≡ found
      → (tick_alone w place found).world.clock ≡ clock_with w.clock (slice_get (clocks_of w) place)
  alone_clock w place None e =
      ap (clock_with w.clock) (sym (slice_get-map (λ (t : SystemState). t.moment) w.systems place ∙ ap (option_map (λ (t : SystemState). t.moment)) e))
  alone_clock w place (Some s) e =
      goes_on_clock (record w { clock = max w.clock (s.moment + 1) }) place (Some s) e ∙ ap (clock_with w.clock) (sym (slice_get_map (λ (t : SystemState). t.moment) w.systems place s e))

  changed_behind : (place : ℕ) (found : Option ℕ) (clock : ℕ) (clocks : List ℕ)
      → change_at (λ c. c + 1) (suc place) found (clock ∷ clocks) ≡ clock ∷ change_at (λ c. c + 1) place found clocks
  changed_behind place None clock clocks = refl
  changed_behind place (Some own) clock clocks = refl

  changed_is : (place : ℕ) (clocks : List ℕ) → with_next place clocks ≡ changed_at (λ clock. clock + 1) place clocks
  changed_is place [] = refl
  changed_is zero (clock ∷ clocks) = refl
  changed_is (suc place) (clock ∷ clocks) =
      changed_behind place (slice_get clocks place) clock clocks ∙ ap (λ cs. clock ∷ cs) (changed_is place clocks)

  -- What each move leaves.

  quiet : (w : LabelledNetwork) → HasClocks (clocks_of w) w.clock w
  quiet w = record { systems = refl; network = refl }

  -- each move takes the clocks of systems on as it should
  pub clocks_by : (plan : Plan) (w : LabelledNetwork) (move : Move) → clocks_of (after plan w move).world ≡ clocks_after (clocks_of w) move
  clocks_by plan w (One place) =
      (event_leaves (clocks_of w) w.clock plan.subnets plan.limits w (slice_get plan.events place) (quiet w)).world.systems
  clocks_by plan w SettleOne = (settle_leaves (clocks_of w) w.clock plan.limits w (slice_get w.copies w.cursor) (quiet w)).world.systems
  clocks_by plan w LoseOne = (lose_leaves (clocks_of w) w.clock w (slice_get w.copies w.cursor) (quiet w)).systems
  clocks_by plan w TickOne =
      tick_each_clocks (range_with_len 0 (length w.systems)) (record w { clock = w.clock + 1 })
      ∙ ap (λ count. sweep (λ clock. clock + 1) (range_with_len 0 count) (clocks_of w)) (sym (length-map w.systems (λ (t : SystemState). t.moment)))
      ∙ sweep_all (λ clock. clock + 1) (clocks_of w)
  clocks_by plan w (TickSystem place) = alone_clocks w place (slice_get w.systems place) refl ∙ changed_is place (clocks_of w)

  -- and so it does the network's clock
  pub clock_by : (plan : Plan) (w : LabelledNetwork) (move : Move) → (after plan w move).world.clock ≡ clock_after w.clock (clocks_of w) move
  clock_by plan w (One place) =
      (event_leaves (clocks_of w) w.clock plan.subnets plan.limits w (slice_get plan.events place) (quiet w)).world.network
  clock_by plan w SettleOne = (settle_leaves (clocks_of w) w.clock plan.limits w (slice_get w.copies w.cursor) (quiet w)).world.network
  clock_by plan w LoseOne = (lose_leaves (clocks_of w) w.clock w (slice_get w.copies w.cursor) (quiet w)).network
  clock_by plan w TickOne = tick_each_clock (range_with_len 0 (length w.systems)) (record w { clock = w.clock + 1 })
  clock_by plan w (TickSystem place) = alone_clock w place (slice_get w.systems place) refl

pub clocks_then : StepLaws → (plan : Plan) (w : LabelledNetwork) (move : Move) → clocks_of (after plan w move).world ≡ clocks_after (clocks_of w) move
clocks_then laws = clocks_by laws.steps.moment

-- Clocks at the beginning.

first_clocks_from : (limits : Limits) (from : ℕ) (systems : List SystemConfiguration)
    → map (λ (s : SystemState). s.moment) (states_from limits from systems) ≡ first_clocks systems
first_clocks_from limits from [] = refl
first_clocks_from limits from (system ∷ systems) = ap (λ clocks. 0 ∷ clocks) (first_clocks_from limits (from + 1) systems)

pub clocks_begin : (plan : Plan) → clocks_of (first_world plan) ≡ first_clocks plan.systems
clocks_begin plan = first_clocks_from plan.limits 0 plan.systems

begin_together : (skew : ℕ) (systems : List SystemConfiguration) → AreTogether skew (first_clocks systems)
begin_together skew systems first second a b at there =
    let one : 0 ≡ a = (mapped_from (λ (system : SystemConfiguration). 0) systems first a at).2 in
    omega arith

pub first_together : (plan : Plan) → AreTogether plan.limits.skew (clocks_of (first_world plan))
first_together plan = subst (AreTogether plan.limits.skew) (sym (clocks_begin plan)) (begin_together plan.limits.skew plan.systems)

-- Scenarios whose events may come.

-- the moves of an event, and those behind it
event_stays : (event : Event) (place : ℕ) (standing : Standing) (moves : List Move) → AreTogether standing.skew standing.clocks → MayCome standing event
    → (AreTogether standing.skew (standing_after event standing).clocks → StayTogether standing.skew (standing_after event standing).clocks moves)
    → StayTogether standing.skew standing.clocks (moves_of place event ++ moves)
event_stays (Settle count) place standing moves together may rest =
    settles_stay standing.skew SettleOne (λ clocks. refl) count moves standing.clocks together (rest together)
event_stays (Lose count) place standing moves together may rest =
    settles_stay standing.skew LoseOne (λ clocks. refl) count moves standing.clocks together (rest together)
event_stays (Tick count) place standing moves together may rest =
    ticks_stay standing.skew count moves standing.clocks together (rest (all_together standing.skew count standing.clocks together))
event_stays (event.TickSystem system count) place standing moves together may rest =
    ticking_alone_stays standing.skew system count moves standing.clocks together may
    (rest (one_together standing.skew count system standing.clocks together may))
event_stays (Send system from to body ask) place standing moves together may rest = (together, rest together)
event_stays (Deliver copy system) place standing moves together may rest = (together, rest together)
event_stays (Restart system) place standing moves together may rest = (together, rest together)
event_stays (Echo system from to body) place standing moves together may rest = (together, rest together)
event_stays (Congest system on) place standing moves together may rest = (together, rest together)
event_stays (Inject subnet from to octets) place standing moves together may rest = (together, rest together)
event_stays (Mtu subnet mtu) place standing moves together may rest = (together, rest together)
event_stays (Route system route) place standing moves together may rest = (together, rest together)
event_stays (Unroute system prefix) place standing moves together may rest = (together, rest together)
event_stays (Port system number subnet snpa) place standing moves together may rest = (together, rest together)

events_stay : (events : List Event) (place : ℕ) (standing : Standing) → AreTogether standing.skew standing.clocks → EachMayCome standing events
    → StayTogether standing.skew standing.clocks (moves_from place events)
events_stay [] place standing together may = tt
events_stay (event ∷ events) place standing together may =
    event_stays event place standing (moves_from (place + 1) events) together may.0
    (λ next. events_stay events (place + 1) (standing_after event standing) next may.1)

-- the clocks of a fit plan stay together in all of its moves
pub plan_stays : (plan : Plan) → IsFit plan → StayTogether plan.limits.skew (clocks_of (first_world plan)) (moves_of_plan plan)
plan_stays plan fit =
    subst (λ clocks. StayTogether plan.limits.skew clocks (moves_of_plan plan)) (sym (clocks_begin plan))
    (events_stay plan.events 0 (standing_of plan.limits.skew plan.systems) (begin_together plan.limits.skew plan.systems) fit.stand)

-- and in those that are made
pub run_stays : (plan : Plan) → IsFit plan → StayTogether plan.limits.skew (clocks_of (first_world plan)) (moves_made plan)
run_stays plan fit =
    let front = made_are_first plan (first_world plan) (moves_of_plan plan) in
    stay_front plan.limits.skew (moves_made plan) front.0 (clocks_of (first_world plan))
    (subst (StayTogether plan.limits.skew (clocks_of (first_world plan))) front.1 (plan_stays plan fit))

-- Clocks that tick together.

pub together_stays : (plan : Plan) (moves : List Move) → TickTogether moves → StayTogether plan.limits.skew (clocks_of (first_world plan)) moves
together_stays plan moves all = ticks_together plan.limits.skew moves (clocks_of (first_world plan)) all (first_together plan)

-- each of some clocks is this one
abbrev AreAll : ℕ → List ℕ → Type 0
AreAll now clocks = (place clock : ℕ) → slice_get clocks place ≡ Some clock → clock ≡ now

all_after : (clock : ℕ) (clocks : List ℕ) (move : Move) → TicksForAll move → AreAll clock clocks → AreAll (clock_after clock clocks move) (clocks_after clocks move)
all_after clock clocks (One place) all are = are
all_after clock clocks SettleOne all are = are
all_after clock clocks LoseOne all are = are
all_after clock clocks TickOne all are = λ place later there.
    let it = mapped_from (λ (c : ℕ). c + 1) clocks place later there in
    let before : it.0 ≡ clock = are place it.0 it.1 in
    let moved : it.0 + 1 ≡ later = it.2 in
    omega arith
all_after clock clocks (TickSystem place) all are = absurd all

all_then : OnMoments → (plan : Plan) (moves : List Move) (w : LabelledNetwork) → TickTogether moves → AreAll w.clock (clocks_of w)
    → AreAll (world_after plan w moves).clock (clocks_of (world_after plan w moves))
all_then law plan [] w all are = are
all_then law plan (move ∷ moves) w all are =
    all_then law plan moves (after plan w move).world all.1
    (subst (λ clock. AreAll clock (clocks_of (after plan w move).world)) (sym (clock_by law plan w move))
    (subst (AreAll (clock_after w.clock (clocks_of w) move)) (sym (clocks_by law plan w move)) (all_after w.clock (clocks_of w) move all.0 are)))

first_are : (plan : Plan) → AreAll (first_world plan).clock (clocks_of (first_world plan))
first_are plan place clock at =
    let begun = subst (λ clocks. slice_get clocks place ≡ Some clock) (clocks_begin plan) at in
    sym (mapped_from (λ (system : SystemConfiguration). 0) plan.systems place clock begun).2

pub all_are_current : OnMoments → (plan : Plan) (moves : List Move) → TickTogether moves → AreCurrent (world_after plan (first_world plan) moves)
all_are_current law plan moves all =
    let w = world_after plan (first_world plan) moves in
    let are = all_then law plan moves (first_world plan) all (first_are plan) in
    AllByRecursion-from_places (λ (s : SystemState). s.moment ≡ w.clock) w.systems
    (λ place s there. are place s.moment (slice_get_map (λ (t : SystemState). t.moment) w.systems place s there))

-- None of some clocks is ahead of this one.

abbrev AreBehind : ℕ → List ℕ → Type 0
AreBehind now clocks = (place clock : ℕ) → slice_get clocks place ≡ Some clock → clock ≤ now

-- the network's clock goes on with one that passes it
passed : (clock : ℕ) (found : Option ℕ) → clock ≤ clock_with clock found
passed clock None = omega arith
passed clock (Some own) = grind arith

passed_own : (clock own : ℕ) → own + 1 ≤ clock_with clock (Some own)
passed_own clock own = grind arith

behind_after : (clock : ℕ) (clocks : List ℕ) (move : Move) → AreBehind clock clocks → AreBehind (clock_after clock clocks move) (clocks_after clocks move)
behind_after clock clocks (One place) are = are
behind_after clock clocks SettleOne are = are
behind_after clock clocks LoseOne are = are
behind_after clock clocks TickOne are = λ place later there.
    let it = mapped_from (λ (c : ℕ). c + 1) clocks place later there in
    let before = are place it.0 it.1 in
    let moved : it.0 + 1 ≡ later = it.2 in
    omega arith
behind_after clock clocks (TickSystem alone) are = λ place later there.
    let network = passed clock (slice_get clocks alone) in
    elim (was_there (λ (c : ℕ). c + 1) alone place clocks later there) [
      | inl here ↦ (
          let found : slice_get clocks alone ≡ Some here.1 = subst (λ n. slice_get clocks n ≡ Some here.1) here.0 here.2 in
          let own : here.1 + 1 ≤ clock_with clock (slice_get clocks alone) =
          subst (λ (c : Option ℕ). here.1 + 1 ≤ clock_with clock c) (sym found) (passed_own clock here.1) in
          let moved : later ≡ here.1 + 1 = here.3 in
          omega arith)
      | inr other ↦ (let before = are place later other.1 in omega arith)
    ]

-- so it is of the clocks of a network
pub behind_of : (w : LabelledNetwork) → NoneIsAhead w → AreBehind w.clock (clocks_of w)
behind_of w none place clock there =
    let it = mapped_from (λ (s : SystemState). s.moment) w.systems place clock there in
    let before = AllByRecursion-slice_get (λ (s : SystemState). s.moment ≤ w.clock) w.systems place it.0 it.1 none in
    let same : it.0.moment ≡ clock = it.2 in
    omega arith

none_of : (w : LabelledNetwork) → AreBehind w.clock (clocks_of w) → NoneIsAhead w
none_of w are =
    AllByRecursion-from_places (λ (s : SystemState). s.moment ≤ w.clock) w.systems
    (λ place s there. are place s.moment (slice_get_map (λ (t : SystemState). t.moment) w.systems place s there))

pub stays_behind : OnMoments → (plan : Plan) (w : LabelledNetwork) (move : Move) → NoneIsAhead w → NoneIsAhead (after plan w move).world
stays_behind law plan w move none =
    none_of (after plan w move).world
    (subst (λ clock. AreBehind clock (clocks_of (after plan w move).world)) (sym (clock_by law plan w move))
    (subst (AreBehind (clock_after w.clock (clocks_of w) move)) (sym (clocks_by law plan w move))
    (behind_after w.clock (clocks_of w) move (behind_of w none))))

pub behind_then : OnMoments → (plan : Plan) (moves : List Move) (w : LabelledNetwork) → NoneIsAhead w → NoneIsAhead (world_after plan w moves)
behind_then law plan [] w none = none
behind_then law plan (move ∷ moves) w none = behind_then law plan moves (after plan w move).world (stays_behind law plan w move none)

pub none_is_ahead : OnMoments → (plan : Plan) (moves : List Move) → NoneIsAhead (world_after plan (first_world plan) moves)
none_is_ahead law plan moves =
    behind_then law plan moves (first_world plan)
    (none_of (first_world plan) (λ place clock at. let begun : clock ≡ 0 = first_are plan place clock at in omega arith))

-- Version 1.

ticks_repeat : (count : ℕ) (move : Move) → TicksForAll move → TickTogether (replicate count move)
ticks_repeat zero move all = tt
ticks_repeat (suc count) move all = (all, ticks_repeat count move all)

event_ticks : (place : ℕ) (event : Event) → IsOfVersion1 event → TickTogether (moves_of place event)
event_ticks place (Settle count) old = ticks_repeat count SettleOne tt
event_ticks place (Lose count) old = ticks_repeat count LoseOne tt
event_ticks place (Tick count) old = ticks_repeat count TickOne tt
event_ticks place (event.TickSystem system count) old = absurd old
event_ticks place (Mtu subnet mtu) old = absurd old
event_ticks place (Route system route) old = absurd old
event_ticks place (Unroute system prefix) old = absurd old
event_ticks place (Port system number subnet snpa) old = absurd old
event_ticks place (Send system from to body ask) old = (tt, tt)
event_ticks place (Deliver copy system) old = (tt, tt)
event_ticks place (Restart system) old = (tt, tt)
event_ticks place (Echo system from to body) old = (tt, tt)
event_ticks place (Congest system on) old = (tt, tt)
event_ticks place (Inject subnet from to octets) old = (tt, tt)

events_tick : (events : List Event) (place : ℕ) → AllByRecursion IsOfVersion1 events → TickTogether (moves_from place events)
events_tick [] place old = tt
events_tick (event ∷ events) place old =
    AllByRecursion-append TicksForAll (moves_of place event) (moves_from (place + 1) events) (event_ticks place event old.0)
    (events_tick events (place + 1) old.1)

pub version_1_ticks_together : (plan : Plan) → IsFit plan → plan.version ≡ 1 → TickTogether (moves_of_plan plan)
version_1_ticks_together plan fit old = events_tick plan.events 0 (fit.of_version old)

pub front_stays : (plan : Plan) (moves later : List Move) → IsFront moves later → StaysTogether plan later → StaysTogether plan moves
front_stays plan moves later front stay =
    stay_front plan.limits.skew moves front.0 (clocks_of (first_world plan))
    (subst (StayTogether plan.limits.skew (clocks_of (first_world plan))) front.1 stay)
