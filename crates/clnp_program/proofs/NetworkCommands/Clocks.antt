-- The clock of a network is set on by the ticks among the moves, each by one at most, and by nothing else.
use Rattle.std.proofs.Common.{◌≡◌, ℕ, ◌+◌, ◌≤◌, zero, suc, List, [], ◌∷◌, ◌++◌, Option, None, Some, refl, sym, ap, subst, ◌∙◌, arith}
use Rattle.std.specs.Prelude.{replicate, slice_get}
use Rattle.std.specs.List.{sum_by}
use Rattle.std.proofs.lemmas.List.Sums.{sum-map, sum_by-cons}
use Rattle.clnp_machine.specs.ScenarioPlan.Plan.{Plan, IsFit, moves_of, moves_from, ticks_of}
use Rattle.clnp_machine.specs.ClnpPlan.declared.scenario_plan.event.Event.{Event}
use Rattle.clnp_machine.specs.ClnpPlan.declared.scenario_plan.event.Event.TheVariants.{Send, Echo, Deliver, Settle, Lose, Tick, Restart, Congest, Inject}
use Rattle.clnp_machine.specs.ClnpPlan.declared.scenario_plan.event.Event.TheVariants as event
use Rattle.clnp_machine.specs.ClnpPlan.declared.scenario_plan.event.Move.{Move}
use Rattle.clnp_machine.specs.ClnpPlan.declared.scenario_plan.event.Move.TheVariants.{One, SettleOne, LoseOne, TickOne, TickSystem}
use Rattle.clnp_machine.proofs.Deeds.{step_moment}
use Rattle.clnp_machine.specs.ClnpNetwork.LabelledNetwork.{LabelledNetwork, after, first_world}
use Rattle.clnp_machine.specs.ClnpNetwork.Clocks.{NoneIsAhead, clock_after, clock_with, clocks_of}
use Rattle.clnp_machine.specs.ClnpNetwork.Run.{moves_of_plan, world_after}
use Rattle.clnp_program.specs.ClnpWorld.State.{WorldState}
use Rattle.clnp_program.specs.ClnpWorld.Stands.{Stands}
use Rattle.clnp_safety.proofs.Clocks.{behind_of, clock_by, stays_behind}
use Rattle.clnp_program.specs.NetworkCommands.Time.{tick_of, ticks_in, HasTime}

passed_by_one : (clock : ℕ) (found : Option ℕ) → ((own : ℕ) → found ≡ Some own → own ≤ clock) → clock_with clock found ≤ clock + 1
passed_by_one clock None behind = omega arith
passed_by_one clock (Some own) behind = let least = behind own refl in grind arith

set_on : (clock : ℕ) (clocks : List ℕ) (move : Move) → ((place own : ℕ) → slice_get clocks place ≡ Some own → own ≤ clock)
    → clock_after clock clocks move ≤ clock + tick_of move
set_on clock clocks (One place) behind = omega arith
set_on clock clocks SettleOne behind = omega arith
set_on clock clocks LoseOne behind = omega arith
set_on clock clocks TickOne behind = omega arith
set_on clock clocks (TickSystem place) behind = passed_by_one clock (slice_get clocks place) (behind place)

move_sets_on : (plan : Plan) (w : LabelledNetwork) (move : Move) → NoneIsAhead w → (after plan w move).world.clock ≤ w.clock + tick_of move
move_sets_on plan w move none =
    subst (λ clock. clock ≤ w.clock + tick_of move) (sym (clock_by step_moment plan w move)) (set_on w.clock (clocks_of w) move (behind_of w none))

moves_set_on : (plan : Plan) (w : LabelledNetwork) (moves : List Move) → NoneIsAhead w → (world_after plan w moves).clock ≤ w.clock + ticks_in moves
moves_set_on plan w [] none = omega arith
moves_set_on plan w (move ∷ moves) none =
    let first = move_sets_on plan w move none in
    let rest = moves_set_on plan (after plan w move).world moves (stays_behind step_moment plan w move none) in
    omega arith

pub ticks_in-append : (made more : List Move) → ticks_in (made ++ more) ≡ ticks_in made + ticks_in more
ticks_in-append [] more = omega arith
ticks_in-append (move ∷ made) more = omega (arith, ticks_in-append made more)

ticks_of_none : (count : ℕ) (move : Move) → tick_of move ≡ 0 → ticks_in (replicate count move) ≡ 0
ticks_of_none zero move h = refl
ticks_of_none (suc count) move h = omega (arith, ticks_of_none count move h)

ticks_of_each : (count : ℕ) (move : Move) → tick_of move ≡ 1 → ticks_in (replicate count move) ≡ count
ticks_of_each zero move h = refl
ticks_of_each (suc count) move h = omega (arith, h, ticks_of_each count move h)

ticks_in_event : (place : ℕ) (event : Event) → ticks_in (moves_of place event) ≡ ticks_of event
ticks_in_event place (Settle count) = ticks_of_none count SettleOne refl
ticks_in_event place (Lose count) = ticks_of_none count LoseOne refl
ticks_in_event place (Tick count) = ticks_of_each count TickOne refl
ticks_in_event place (event.TickSystem system count) = ticks_of_each count (TickSystem system) refl
ticks_in_event place (Send system from to body ask) = refl
ticks_in_event place (Deliver copy system) = refl
ticks_in_event place (Restart system) = refl
ticks_in_event place (Congest system on) = refl
ticks_in_event place (Echo system from to body) = refl
ticks_in_event place (Inject subnet from to octets) = refl
ticks_in_event place (event.Mtu subnet mtu) = refl
ticks_in_event place (event.Route system route) = refl
ticks_in_event place (event.Unroute system prefix) = refl
ticks_in_event place (event.Port system number subnet snpa) = refl

ticks_in_events : (place : ℕ) (events : List Event) → ticks_in (moves_from place events) ≡ sum_by ticks_of events
ticks_in_events place [] = refl
ticks_in_events place (event ∷ events) =
    let rest : ticks_in (moves_from (place + 1) events) ≡ sum_by ticks_of events = ticks_in_events (place + 1) events in
    omega (arith, ticks_in-append (moves_of place event) (moves_from (place + 1) events), ticks_in_event place event, sum_by-cons ticks_of event events, rest)

-- few ticks pass in a scenario, so there is time for them all at its start
pub time_at_first : (plan : Plan) (world : WorldState) → IsFit plan → Stands world (first_world plan) → HasTime world (moves_of_plan plan)
time_at_first plan world fit stands =
    let few : ticks_in (moves_of_plan plan) ≤ 1000000 = omega (arith, ticks_in_events 0 plan.events, sum-map ticks_of plan.events, fit.ticks) in
    record {
      model = first_world plan;
      stands = stands;
      early = omega (arith, few);
    }

-- where there was time for all moves, there is time for the next ones behind the first
pub time_for_next : (plan : Plan) (old new : WorldState) (all made next later : List Move) → (time : HasTime old all)
    → all ≡ (made ++ next) ++ later → Stands new (world_after plan time.model made) → HasTime new next
time_for_next plan old new all made next later time split stands =
    let sums : ticks_in all ≡ ticks_in made + ticks_in next + ticks_in later =
    ap ticks_in split ∙ (ticks_in-append (made ++ next) later ∙ ap (λ (t : ℕ). t + ticks_in later) (ticks_in-append made next)) in
    record {
      model = world_after plan time.model made;
      stands = stands;
      early = omega (arith, moves_set_on plan time.model made time.stands.holds.behind, sums, time.early);
    }
