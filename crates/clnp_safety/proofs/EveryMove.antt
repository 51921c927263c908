-- What each step of a system keeps, whatever comes to it, or whatever comes that a plan's events allow, each move keeps.
use Rattle.clnp_machine.proofs.ClnpBase.Lists.{AllByRecursion-any, AllByRecursion-slice_get}
use Rattle.std.proofs.Common.{◌≡◌, ℕ, refl, sym, subst, ◌∙◌, List, [], ◌∷◌, ◌++◌, ◌+◌, ◌<◌, length, Bool}
use Rattle.std.specs.Prelude.{max, slice_get, slice_set, Option, None, Some}
use Rattle.std.specs.List.{AllByRecursion, range_with_len}
use Rattle.clnp_machine.specs.Pdus.declared.nsap.target.Target.{Target}
use Rattle.clnp_machine.specs.ClnpPlan.Journal.{Line}
use Rattle.clnp_machine.specs.ClnpPlan.declared.ask.Ask.{Ask}
use Rattle.clnp_machine.specs.ClnpPlan.declared.config.Limits.{Limits}
use Rattle.clnp_machine.specs.ClnpPlan.declared.config.PortConfig.{PortConfig}
use Rattle.clnp_machine.specs.ScenarioPlan.Plan.{Plan, Subnetwork, octets_of}
use Rattle.clnp_machine.specs.ClnpPlan.declared.scenario_plan.event.Event.{Event}
use Rattle.clnp_machine.specs.ClnpPlan.declared.scenario_plan.event.Event.TheVariants.{Send, Echo, Deliver, Settle, Lose, Tick, Restart, Congest, Inject, Mtu, Route, Unroute, Port}
use Rattle.clnp_machine.specs.ClnpPlan.declared.scenario_plan.event.Event.TheVariants as event
use Rattle.clnp_machine.specs.ClnpPlan.declared.scenario_plan.event.Move.{Move}
use Rattle.clnp_machine.specs.ClnpPlan.declared.scenario_plan.event.Move.TheVariants.{One, SettleOne, LoseOne, TickOne, TickSystem}
use Rattle.clnp_machine.specs.Change.{Change, PortIsAt, PortTakes, RouteIsGone, RouteIsSet}
use Rattle.clnp_machine.specs.Unit.{DataUnit}
use Rattle.clnp_machine.specs.System.{SystemState, Input, AsksToSend, AsksForEcho, MomentComes, IsRestarted, IsCongested, IsChanged, Output, Transmits, SendsEsis, Notes, Effect}
use Rattle.clnp_machine.specs.Step.{step}
use Rattle.clnp_machine.specs.ClnpNetwork.LabelledNetwork.{LabelledNetwork, Copy, Numbered, give_each, put_out, with_effect, takes_effect, comes, frame_to, addressees_from, settle_copy, lose_copy, goes_on, tick_alone, tick_each, moved, event_happens, after}
use Rattle.clnp_machine.specs.ClnpNetwork.Run.{world_after}
use Rattle.std.proofs.lemmas.List.{append-nil}
use Rattle.std.proofs.lemmas.Option.{same_Some}
use Rattle.clnp_safety.specs.Growth.{IsFront}
use Rattle.clnp_safety.proofs.Grows.{effect_copies, front-more}
use Rattle.clnp_safety.proofs.Lines.{AnyLine}
use Rattle.clnp_safety.proofs.Steps.{copy_there, ChangingIsFine, keeps-map, keeps-put_all_out, InjectedIsFine, Keeps, GivingIsFine, keeps-nothing, keeps-followed_by, keeps-comes_to, keeps-asks, keeps-give_each, keeps-settle_for, keeps-deliver, keeps-injects, keeps-moves_port, keeps-removes_route, keeps-resizes, keeps-sets_route, with_outside}

-- what an event asks of a system, or changes of it, is such as Comes says, and a frame from outside such as Brings says of its sender
-- and octets
abbrev pub GivesOnly : (Comes : Input → Type 0) (Brings : List ℕ → List ℕ → Type 0) → Event → Type 0
GivesOnly Comes Brings (Send system from to body ask) = Comes (AsksToSend from to (octets_of body) ask)
GivesOnly Comes Brings (Echo system from to body) = Comes (AsksForEcho from to (octets_of body))
GivesOnly Comes Brings (Inject subnet from to octets) = Brings from octets
GivesOnly Comes Brings (Mtu subnet mtu) = (number : ℕ) → Comes (IsChanged (PortTakes number mtu))
GivesOnly Comes Brings (Route system route) = Comes (IsChanged (RouteIsSet route))
GivesOnly Comes Brings (Unroute system prefix) = Comes (IsChanged (RouteIsGone prefix))
GivesOnly Comes Brings (Port system number subnet snpa) =
    (port : PortConfig) (mtu : ℕ) → Comes (IsChanged (PortIsAt number (moved port subnet mtu snpa)))
GivesOnly Comes Brings _ = Unit {0}

-- whatever comes to a system
abbrev pub AnyInput : Input → Type 0
AnyInput input = Unit {0}

-- whatever comes from outside
abbrev pub AnyFrame : List ℕ → List ℕ → Type 0
AnyFrame sender octets = Unit {0}

-- a port that moves is one that a system has, with its transit, and takes frames as long as its subnetwork does now
pub record IsMovedIn (w : LabelledNetwork) (s : SystemState) (number : ℕ) (port : PortConfig) : Type 0 where
  pub was : PortConfig
  pub there : slice_get s.attached.ports number ≡ Some was
  pub transit : port.transit ≡ was.transit
  pub mtu : slice_get w.mtus port.subnet ≡ Some port.mtu

-- What comes to a system goes by the network as it is: a moment is the next one of the system; a port that moves is there, and a
-- route leads out of one that is.
abbrev pub IsOfNow : LabelledNetwork → SystemState → Input → Type 0
IsOfNow w s (MomentComes now) = now ≡ s.moment + 1
IsOfNow w s (IsChanged (PortIsAt number port)) = IsMovedIn w s number port
IsOfNow w s (IsChanged (RouteIsSet route)) = route.port < length s.attached.ports
IsOfNow w s _ = Unit {0}

module _ (Comes : Input → Type 0) (asked : (from to octets : List ℕ) (ask : Ask) → Comes (AsksToSend from to octets ask))
    (echo : (from to octets : List ℕ) → Comes (AsksForEcho from to octets)) (changes : (change : Change) → Comes (IsChanged change)) where
  asked_by : (event : Event) → GivesOnly Comes AnyFrame event
  asked_by (Send system from to body ask) = asked from to (octets_of body) ask
  asked_by (Echo system from to body) = echo from to (octets_of body)
  asked_by (Mtu subnet mtu) = λ number. changes (PortTakes number mtu)
  asked_by (Route system route) = changes (RouteIsSet route)
  asked_by (Unroute system prefix) = changes (RouteIsGone prefix)
  asked_by (Port system number subnet snpa) = λ port mtu. changes (PortIsAt number (moved port subnet mtu snpa))
  asked_by _ = tt

  -- whatever is asked is such as Comes says, and so all events ask only that
  pub asked_by_all : (events : List Event) → AllByRecursion (GivesOnly Comes AnyFrame) events
  asked_by_all events = AllByRecursion-any (GivesOnly Comes AnyFrame) asked_by events

pub any_events : (events : List Event) → AllByRecursion (GivesOnly AnyInput AnyFrame) events
any_events events = asked_by_all AnyInput (λ from to octets ask. tt) (λ from to octets. tt) (λ change. tt) events

-- a world has the units and the copies of another one, and maybe more
pub record Follows (before w : LabelledNetwork) : Type 0 where
  pub units : IsFront before.units w.units
  pub copies : IsFront before.copies w.copies

-- so it is of a world of which K holds
abbrev GrowsFrom : LabelledNetwork → (LabelledNetwork → Type 0) → LabelledNetwork → Type 0
GrowsFrom before K w = K w × Follows before w

-- K holds of the world after each step of a system of one of which it holds, and Q of the lines, where what comes is such
-- as Comes says, as all is that asks nothing and changes no port or route where K holds; K doesn't go by the cursor, nor by the
-- network's clock, and frames may come from outside, and a subnetwork take frames of other lengths
pub record EachStepKeeps (Comes : LabelledNetwork → Input → Type 0) (Brings : List ℕ → List ℕ → Type 0) (K : LabelledNetwork → Type 0) (Q : Line → Type 0) : Type 0 where
  pub steps : (w : LabelledNetwork) (place : ℕ) (s : SystemState) (input : Input) → slice_get w.systems place ≡ Some s → Comes w input → IsOfNow w s input
      → K w → Keeps K Q (takes_effect w place (step s input))
  pub frames : (w : LabelledNetwork) (at : ℕ) (copy : Copy) → slice_get w.copies at ≡ Some copy → K w → (v : LabelledNetwork) → Follows w v
      → (s : SystemState) → Comes v (frame_to s copy)
  pub moments : (w : LabelledNetwork) (now : ℕ) → Comes w (MomentComes now)
  pub restarts : (w : LabelledNetwork) → Comes w IsRestarted
  pub congestion : (w : LabelledNetwork) (on : Bool) → Comes w (IsCongested on)
  pub cursor : (w : LabelledNetwork) (next : ℕ) → K w → K (record w { cursor = next })
  pub clock : (w : LabelledNetwork) (clock : ℕ) → K w → K (record w { clock = clock })
  pub outside : (w : LabelledNetwork) (subnet : ℕ) (sender : List ℕ) (target : Target) (octets : List ℕ) → Brings sender octets → K w
      → K (with_outside w subnet sender target octets)
  pub sizes : (w : LabelledNetwork) (subnet mtu : ℕ) → ((number : ℕ) → Comes w (IsChanged (PortTakes number mtu))) → K w
      → K (record w { mtus = slice_set w.mtus subnet mtu })
  pub injected : InjectedIsFine Q
  pub fine : GivingIsFine Q
  pub changing : ChangingIsFine Q

-- a system that takes a step adds the units that it makes
put_out_makes : (units : List DataUnit) (system : SystemState) (output : Output) (v : LabelledNetwork) → v.units ≡ units
    → Keeps (λ (later : LabelledNetwork). later.units ≡ units) AnyLine (put_out system v output)
put_out_makes units system (Notes note) v same = record { world = same; lines = (tt, tt) }
put_out_makes units system (Transmits port target packet) v same = record { world = same; lines = (tt, tt) }
put_out_makes units system (SendsEsis port target value) v same = record { world = same; lines = (tt, tt) }

pub effect_makes : (w : LabelledNetwork) (place : ℕ) (effect : Effect) → (takes_effect w place effect).world.units ≡ w.units ++ effect.units
effect_makes w place effect =
    let units : List DataUnit = w.units ++ effect.units in
    (keeps-put_all_out (λ (v : LabelledNetwork). v.units ≡ units) AnyLine effect.after effect.outputs
    (AllByRecursion-any (λ output. (v : LabelledNetwork) → v.units ≡ units → Keeps (λ (later : LabelledNetwork). later.units ≡ units) AnyLine (put_out effect.after v output))
    (put_out_makes units effect.after) effect.outputs)
    (with_effect w place effect) refl).world

follows-itself : (w : LabelledNetwork) → Follows w w
follows-itself w = record { units = ([], sym (append-nil w.units)); copies = ([], sym (append-nil w.copies)) }

-- a world still follows after a system has taken a step
follows_effect : (before w : LabelledNetwork) (place : ℕ) (effect : Effect) → Follows before w → Follows before (takes_effect w place effect).world
follows_effect before w place effect h = record {
  units = subst (IsFront before.units) (sym (effect_makes w place effect)) (front-more before.units w.units effect.units h.units);
  copies = let more = effect_copies w place effect in
      subst (IsFront before.copies) (sym more.1) (front-more before.copies w.copies more.0 h.copies);
}

module _ (Comes : LabelledNetwork → Input → Type 0) (Brings : List ℕ → List ℕ → Type 0) (K : LabelledNetwork → Type 0) (Q : Line → Type 0) (each : EachStepKeeps Comes Brings K Q) where
  keeps-comes : (w : LabelledNetwork) (place : ℕ) (input : Input) → Comes w input → ((s : SystemState) → slice_get w.systems place ≡ Some s → IsOfNow w s input)
      → K w → Keeps K Q (comes w place input)
  keeps-comes w place input may at k =
      keeps-comes_to K Q w place input (slice_get w.systems place) (λ none. k) (λ s there. each.steps w place s input there may (at s there) k)

  -- the same where it is known which system is there
  keeps-comes_at : (w : LabelledNetwork) (place : ℕ) (s : SystemState) (input : Input) → slice_get w.systems place ≡ Some s → Comes w input → IsOfNow w s input
      → K w → Keeps K Q (comes w place input)
  keeps-comes_at w place s input there may at k =
      keeps-comes w place input may (λ t here. subst (λ (u : SystemState). IsOfNow w u input) (same_Some s t (sym there ∙ here)) at) k

  keeps-goes_on : (w : LabelledNetwork) (place : ℕ) (found : Option SystemState) → slice_get w.systems place ≡ found → K w → Keeps K Q (goes_on w place found)
  keeps-goes_on w place None e k = keeps-nothing K Q w k
  keeps-goes_on w place (Some s) e k =
      keeps-comes_at w place s (MomentComes (s.moment + 1)) e (each.moments w (s.moment + 1)) refl k

  keeps-tick_each : (places : List ℕ) (w : LabelledNetwork) → K w → Keeps K Q (tick_each w places)
  keeps-tick_each [] w k = keeps-nothing K Q w k
  keeps-tick_each (place ∷ places) w k =
      keeps-followed_by K Q K (goes_on w place (slice_get w.systems place)) (λ v. tick_each v places)
      (keeps-goes_on w place (slice_get w.systems place) refl k) (keeps-tick_each places)

  keeps-tick_alone : (w : LabelledNetwork) (place : ℕ) (found : Option SystemState) → slice_get w.systems place ≡ found → K w → Keeps K Q (tick_alone w place found)
  keeps-tick_alone w place None e k = keeps-nothing K Q w k
  keeps-tick_alone w place (Some s) e k =
      let clock = max w.clock (s.moment + 1) in keeps-goes_on (record w { clock = clock }) place (Some s) e (each.clock w clock k)

  keeps-event : (subnets : List Subnetwork) (limits : Limits) (w : LabelledNetwork) (asked : Option Event)
      → ((v : LabelledNetwork) (event : Event) → asked ≡ Some event → GivesOnly (Comes v) Brings event) → K w
      → Keeps K Q (event_happens subnets limits w asked)
  keeps-event subnets limits w (Some (Deliver number system)) may k =
      keeps-deliver K Q each.fine limits w number system k
      (λ copy e s there soon.
      let found = copy_there number w.copies copy e in
      each.steps w system s (frame_to s copy) there (each.frames w found.0 copy found.1 k w (follows-itself w) s) tt k)
  keeps-event subnets limits w (Some (Restart system)) may k = keeps-comes w system IsRestarted (each.restarts w) (λ s there. tt) k
  keeps-event subnets limits w (Some (Congest system on)) may k = keeps-comes w system (IsCongested on) (each.congestion w on) (λ s there. tt) k
  keeps-event subnets limits w (Some (Send system from to body ask)) may k =
      keeps-asks K Q w system (AsksToSend from to (octets_of body) ask) k
      (keeps-comes w system (AsksToSend from to (octets_of body) ask) (may w (Send system from to body ask) refl) (λ s there. tt) k)
  keeps-event subnets limits w (Some (Echo system from to body)) may k =
      keeps-comes w system (AsksForEcho from to (octets_of body)) (may w (Echo system from to body) refl) (λ s there. tt) k
  keeps-event subnets limits w (Some (Inject subnet from to octets)) may k =
      keeps-injects K Q w subnet from to octets k (each.outside w subnet from to octets (may w (Inject subnet from to octets) refl) k) each.injected subnets
  keeps-event subnets limits w (Some (Mtu subnet mtu)) may k =
      keeps-resizes K Q each.changing subnet mtu
      (λ v place number h. keeps-comes v place (IsChanged (PortTakes number mtu)) (may v (Mtu subnet mtu) refl number) (λ s there. tt) h) subnets w k
      (each.sizes w subnet mtu (may w (Mtu subnet mtu) refl) k)
  keeps-event subnets limits w (Some (Route system route)) may k =
      keeps-sets_route K Q each.changing w system k route
      (λ s there leads. keeps-comes_at w system s (IsChanged (RouteIsSet route)) there (may w (Route system route) refl) leads k)
  keeps-event subnets limits w (Some (Unroute system prefix)) may k =
      keeps-removes_route K Q each.changing w system k prefix
      (keeps-comes w system (IsChanged (RouteIsGone prefix)) (may w (Unroute system prefix) refl) (λ s there. tt) k)
  keeps-event subnets limits w (Some (Port system number subnet snpa)) may k =
      keeps-moves_port K Q each.changing w system k number subnet snpa subnets
      (λ s port mtu there has takes.
      keeps-comes_at w system s (IsChanged (PortIsAt number (moved port subnet mtu snpa))) there (may w (Port system number subnet snpa) refl port mtu)
      (record { was = port; there = has; transit = refl; mtu = takes }) k)
  keeps-event subnets limits w (Some (Settle count)) may k = keeps-nothing K Q w k
  keeps-event subnets limits w (Some (Lose count)) may k = keeps-nothing K Q w k
  keeps-event subnets limits w (Some (Tick count)) may k = keeps-nothing K Q w k
  keeps-event subnets limits w (Some (event.TickSystem system count)) may k = keeps-nothing K Q w k
  keeps-event subnets limits w None may k = keeps-nothing K Q w k

  keeps-settle : (limits : Limits) (w : LabelledNetwork) (found : Option Copy) → slice_get w.copies w.cursor ≡ found → K w → Keeps K Q (settle_copy limits w found)
  keeps-settle limits w None e k = keeps-nothing K Q w k
  keeps-settle limits w (Some copy) e k =
      let given : Numbered = record { number = w.cursor + 1; copy = copy } in
      let places = addressees_from 0 copy w.systems in
      let first : LabelledNetwork = record w { cursor = w.cursor + 1 } in
      keeps-settle_for K Q each.fine limits given first places
      (keeps-map (GrowsFrom w K) K Q (give_each limits given first places) (λ v h. h.0)
      (keeps-give_each (GrowsFrom w K) Q each.fine limits given places
      (λ v place h s there soon.
      let input = frame_to s copy in
      let taken = each.steps v place s input there (each.frames w w.cursor copy e k v h.1 s) tt h.0 in
      record { world = (taken.world, follows_effect w v place (step s input) h.1); lines = taken.lines })
      first (each.cursor w (w.cursor + 1) k, record { units = ([], sym (append-nil w.units)); copies = ([], sym (append-nil w.copies)) })))

  keeps-lose : (w : LabelledNetwork) (found : Option Copy) → K w → Keeps K Q (lose_copy w found)
  keeps-lose w None k = keeps-nothing K Q w k
  keeps-lose w (Some copy) k = record { world = each.cursor w (w.cursor + 1) k; lines = (each.fine.lost w.clock (w.cursor + 1), tt) }

  module _ (plan : Plan) (may : (w : LabelledNetwork) → AllByRecursion (GivesOnly (Comes w) Brings) plan.events) where
    pub keeps-move : (w : LabelledNetwork) (move : Move) → K w → Keeps K Q (after plan w move)
    keeps-move w (One place) k =
        keeps-event plan.subnets plan.limits w (slice_get plan.events place) (λ v event there. AllByRecursion-slice_get (GivesOnly (Comes v) Brings) plan.events place event there (may v)) k
    keeps-move w SettleOne k = keeps-settle plan.limits w (slice_get w.copies w.cursor) refl k
    keeps-move w LoseOne k = keeps-lose w (slice_get w.copies w.cursor) k
    keeps-move w TickOne k = keeps-tick_each (range_with_len 0 (length w.systems)) (record w { clock = w.clock + 1 }) (each.clock w (w.clock + 1) k)
    keeps-move w (TickSystem place) k = keeps-tick_alone w place (slice_get w.systems place) refl k

    pub keeps-moves : (moves : List Move) (w : LabelledNetwork) → K w → K (world_after plan w moves)
    keeps-moves [] w k = k
    keeps-moves (move ∷ moves) w k = keeps-moves moves (after plan w move).world (keeps-move w move k).world
