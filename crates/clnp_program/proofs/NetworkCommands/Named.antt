-- The lines of a run name systems and subnetworks of its scenario, whose names are words.
use Rattle.std.proofs.Common.{◌≡◌, ℕ, ◌+◌, Bool, true, false, List, [], ◌∷◌, Option, None, Some, refl, sym, subst, cond}
use Rattle.std.specs.Prelude.{◌==◌, max, nat_lt, slice_get, slice_set, length}
use Rattle.std.specs.List.{AllByRecursion, list_any, range_with_len}
use Rattle.clnp_machine.proofs.ClnpBase.Lists.{AllByRecursion-append, AllByRecursion-implies, AllByRecursion-slice_get}
use Rattle.clnp_machine.specs.Pdus.declared.nsap.target.Target.{Target}
use Rattle.clnp_machine.specs.ClnpPlan.Configuration.{SystemConfiguration}
use Rattle.clnp_machine.specs.ClnpPlan.Journal.{Late, Resized}
use Rattle.clnp_machine.specs.ClnpPlan.declared.config.Limits.{Limits}
use Rattle.clnp_machine.specs.ClnpPlan.declared.config.Role.{Role}
use Rattle.clnp_machine.specs.ClnpPlan.declared.config.Role.TheVariants.{Host, Router}
use Rattle.clnp_machine.specs.ClnpPlan.declared.config.PortConfig.{PortConfig}
use Rattle.clnp_machine.specs.ClnpPlan.declared.note.Note.{Note}
use Rattle.clnp_machine.specs.ClnpPlan.declared.note.Note.TheVariants as note
use Rattle.clnp_machine.specs.Forwarding.Distinct.{has_prefix}
use Rattle.clnp_machine.specs.SystemTables.declared.forwarding.route.Route.{Route}
use Rattle.scenario.proofs.ScenarioWriting.Written.{IsWord, name_is_word, IsInLine, word_in_line}
use Rattle.clnp_machine.specs.ScenarioPlan.Plan.{IsFit, Plan, Subnetwork, octets_of}
use Rattle.clnp_machine.specs.ScenarioPlan.Names.{is_name}
use Rattle.clnp_machine.specs.ClnpPlan.declared.scenario_plan.event.Event.{Event}
use Rattle.clnp_machine.specs.ClnpPlan.declared.scenario_plan.event.Event.TheVariants.{Send, Echo, Deliver, Settle, Lose, Tick, Restart, Congest, Inject}
use Rattle.clnp_machine.specs.ClnpPlan.declared.scenario_plan.event.Event.TheVariants as event
use Rattle.clnp_machine.specs.ClnpPlan.declared.scenario_plan.event.Move.{Move}
use Rattle.clnp_machine.specs.ClnpPlan.declared.scenario_plan.event.Move.TheVariants.{One, SettleOne, LoseOne, TickOne, TickSystem}
use Rattle.clnp_machine.specs.Change.{Change, PortIsAt, PortTakes, RouteIsGone, RouteIsSet}
use Rattle.clnp_machine.specs.Step.{step}
use Rattle.clnp_machine.specs.EveryStep.{IsNoChange, NotesOnly}
use Rattle.clnp_machine.specs.System.{SystemState, AsksToSend, AsksForEcho, Input, IsChanged, IsCongested, IsRestarted, MomentComes, Output, Transmits, SendsEsis, Notes}
use Rattle.clnp_machine.proofs.Deeds.{step_itself}
use Rattle.clnp_machine.proofs.Noted.{output_notes, step_changes_not}
use Rattle.clnp_machine.specs.ClnpNetwork.LabelledNetwork as network
use Rattle.clnp_machine.specs.ClnpNetwork.LabelledNetwork.{LabelledNetwork, Step, after, first_world}
use Rattle.clnp_machine.proofs.ClnpBase.ListSteps.{all_set}
use Rattle.clnp_program.proofs.NetworkCommands.KindWords.{IsNamed, IsNoteInLine}

abbrev IsNamedSystem : SystemState → Type 0
IsNamedSystem s = IsWord s.configuration.name

abbrev pub AreNamed : LabelledNetwork → Type 0
AreNamed w = AllByRecursion IsNamedSystem w.systems

abbrev pub AreNamedSubnets : List Subnetwork → Type 0
AreNamedSubnets subnets = AllByRecursion (λ (subnet : Subnetwork). IsInLine subnet.name) subnets

-- the names of the systems after a part of a move, and those that its lines have
pub record Names (part : Step) : Type 0 where
  pub world : AreNamed part.world
  pub lines : AllByRecursion IsNamed part.lines

names_nothing : (w : LabelledNetwork) → AreNamed w → Names (network.nothing w)
names_nothing w h = record { world = h; lines = tt }

names_then : (part : Step) (next : LabelledNetwork → Step) → Names part → Names (next part.world) → Names (network.followed_by part next)
names_then part next h k =
    record { world = k.world; lines = AllByRecursion-append IsNamed part.lines (next part.world).lines h.lines k.lines }

names_put_out : (s : SystemState) (w : LabelledNetwork) (out : Output) → IsNamedSystem s → NotesOnly IsNoteInLine out → AreNamed w
    → Names (network.put_out s w out)
names_put_out s w (Notes told) is words h = record { world = h; lines = ((is, words), tt) }
names_put_out s w (Transmits port target packet) is words h = record { world = h; lines = (is, tt) }
names_put_out s w (SendsEsis port target value) is words h = record { world = h; lines = (is, tt) }

names_put_all_out : (s : SystemState) (w : LabelledNetwork) (outs : List Output) → IsNamedSystem s → AllByRecursion (NotesOnly IsNoteInLine) outs → AreNamed w
    → Names (network.put_all_out s w outs)
names_put_all_out s w [] is words h = names_nothing w h
names_put_all_out s w (out ∷ outs) is words h =
    let first = names_put_out s w out is words.0 h in
    names_then (network.put_out s w out) (λ v. network.put_all_out s v outs) first
    (names_put_all_out s (network.put_out s w out).world outs is words.1 first.world)

-- no step notes a name
no_change_in_line : (told : Note) → IsNoChange told → IsNoteInLine told
no_change_in_line (note.Port port subnet snpa) h = absurd h
no_change_in_line _ h = tt

step_in_line : (s : SystemState) (input : Input) → AllByRecursion (NotesOnly IsNoteInLine) (step s input).outputs
step_in_line s input =
    AllByRecursion-implies (NotesOnly IsNoChange) (NotesOnly IsNoteInLine) (output_notes IsNoChange IsNoteInLine no_change_in_line)
    (step s input).outputs (step_changes_not s input)

-- a system keeps its name
names_step : (w : LabelledNetwork) (place : ℕ) (s : SystemState) (input : Input) → IsNamedSystem s → AreNamed w
    → Names (network.takes_effect w place (step s input))
names_step w place s input is h =
    let effect = step s input in
    let still : IsNamedSystem effect.after
    = subst (λ (c : SystemConfiguration). IsWord c.name) (sym (step_itself s input).configuration) is in
    names_put_all_out effect.after (network.with_effect w place effect) effect.outputs still (step_in_line s input)
    (all_set IsNamedSystem w.systems place effect.after h still)

there : (w : LabelledNetwork) (place : ℕ) (s : SystemState) → slice_get w.systems place ≡ Some s → AreNamed w → IsNamedSystem s
there w place s e h = AllByRecursion-slice_get IsNamedSystem w.systems place s e h

names_comes_to : (w : LabelledNetwork) (place : ℕ) (input : Input) (s : Option SystemState) → slice_get w.systems place ≡ s → AreNamed w
    → Names (network.comes_to w place input s)
names_comes_to w place input None e h = names_nothing w h
names_comes_to w place input (Some s) e h = names_step w place s input (there w place s e h) h

names_comes : (w : LabelledNetwork) (place : ℕ) (input : Input) → AreNamed w → Names (network.comes w place input)
names_comes w place input h = names_comes_to w place input (slice_get w.systems place) refl h

-- ---- a copy is given

names_given : (limits : Limits) (given : network.Numbered) (w : LabelledNetwork) (place : ℕ) (s : SystemState) (late : Bool) → IsNamedSystem s → AreNamed w
    → Names (cond late (network.writes w (Late s.moment s.configuration.name given.number)) (network.hand_to given w place s))
names_given limits given w place s true is h = record { world = h; lines = (is, tt) }
names_given limits given w place s false is h =
    let taken = names_step w place s (network.frame_to s given.copy) is h in
    record { world = taken.world; lines = (is, taken.lines) }

names_give_to : (limits : Limits) (given : network.Numbered) (w : LabelledNetwork) (place : ℕ) (s : Option SystemState) → slice_get w.systems place ≡ s → AreNamed w
    → Names (network.give_to limits given w place s)
names_give_to limits given w place None e h = names_nothing w h
names_give_to limits given w place (Some s) e h =
    names_given limits given w place s (network.is_late limits w given.copy) (there w place s e h) h

names_give : (limits : Limits) (given : network.Numbered) (w : LabelledNetwork) (place : ℕ) → AreNamed w → Names (network.give limits given w place)
names_give limits given w place h = names_give_to limits given w place (slice_get w.systems place) refl h

names_give_each : (limits : Limits) (given : network.Numbered) (w : LabelledNetwork) (places : List ℕ) → AreNamed w → Names (network.give_each limits given w places)
names_give_each limits given w [] h = names_nothing w h
names_give_each limits given w (place ∷ places) h =
    let first = names_give limits given w place h in
    names_then (network.give limits given w place) (λ v. network.give_each limits given v places) first
    (names_give_each limits given (network.give limits given w place).world places first.world)

names_for_nobody : (now number : ℕ) (places : List ℕ) → AllByRecursion IsNamed (network.for_nobody now number places)
names_for_nobody now number [] = (tt, tt)
names_for_nobody now number (place ∷ places) = tt

names_settle : (limits : Limits) (w : LabelledNetwork) (copy : Option network.Copy) → AreNamed w → Names (network.settle_copy limits w copy)
names_settle limits w None h = names_nothing w h
names_settle limits w (Some copy) h =
    let given : network.Numbered = record { number = w.cursor + 1; copy = copy } in
    let next : LabelledNetwork = record w { cursor = w.cursor + 1 } in
    let places = network.addressees_from 0 copy w.systems in
    let first : Step = record { world = next; lines = network.for_nobody w.clock given.number places } in
    names_then first (λ v. network.give_each limits given v places) (record { world = h; lines = names_for_nobody w.clock given.number places })
    (names_give_each limits given next places h)

names_lose : (w : LabelledNetwork) (copy : Option network.Copy) → AreNamed w → Names (network.lose_copy w copy)
names_lose w None h = names_nothing w h
names_lose w (Some copy) h = record { world = h; lines = (tt, tt) }

names_addressed : (limits : Limits) (w : LabelledNetwork) (number place : ℕ) (copy : network.Copy) (s : SystemState) (is_for : Bool) → IsNamedSystem s → AreNamed w
    → Names (cond is_for (network.give limits (record { number = number; copy = copy }) w place) (network.is_void w s number))
names_addressed limits w number place copy s true is h = names_give limits (record { number = number; copy = copy }) w place h
names_addressed limits w number place copy s false is h = record { world = h; lines = (is, tt) }

names_deliver_to : (limits : Limits) (w : LabelledNetwork) (number place : ℕ) (copy : Option network.Copy) (s : SystemState) → IsNamedSystem s → AreNamed w
    → Names (network.deliver_to limits w number place copy s)
names_deliver_to limits w number place None s is h = record { world = h; lines = (is, tt) }
names_deliver_to limits w number place (Some copy) s is h =
    names_addressed limits w number place copy s (network.is_addressee copy s) is h

names_deliver_at : (limits : Limits) (w : LabelledNetwork) (number place : ℕ) (s : Option SystemState) → slice_get w.systems place ≡ s → AreNamed w
    → Names (network.deliver_at limits w number place s)
names_deliver_at limits w number place None e h = names_nothing w h
names_deliver_at limits w number place (Some s) e h =
    names_deliver_to limits w number place (network.copy_numbered number w.copies) s (there w place s e h) h

-- ---- clocks go on

names_goes_on : (w : LabelledNetwork) (place : ℕ) (s : Option SystemState) → AreNamed w → Names (network.goes_on w place s)
names_goes_on w place None h = names_nothing w h
names_goes_on w place (Some s) h = names_comes w place (MomentComes (s.moment + 1)) h

names_tick_each : (w : LabelledNetwork) (places : List ℕ) → AreNamed w → Names (network.tick_each w places)
names_tick_each w [] h = names_nothing w h
names_tick_each w (place ∷ places) h =
    let part = network.goes_on w place (slice_get w.systems place) in
    let first : Names part = names_goes_on w place (slice_get w.systems place) h in
    names_then part (λ v. network.tick_each v places) first (names_tick_each part.world places first.world)

names_tick_alone : (w : LabelledNetwork) (place : ℕ) (s : Option SystemState) → AreNamed w → Names (network.tick_alone w place s)
names_tick_alone w place None h = names_nothing w h
names_tick_alone w place (Some s) h = names_goes_on (record w { clock = max w.clock (s.moment + 1) }) place (Some s) h

-- ---- what is asked, and what comes from outside

names_asks_role : (role : Role) (w : LabelledNetwork) (place : ℕ) (asked : Input) → AreNamed w → Names (network.asks_role role w place asked)
names_asks_role Host w place asked h = names_comes w place asked h
names_asks_role Router w place asked h = names_nothing w h

names_asks : (w : LabelledNetwork) (place : ℕ) (asked : Input) (s : Option SystemState) → AreNamed w → Names (network.asks_system w place asked s)
names_asks w place asked None h = names_nothing w h
names_asks w place asked (Some s) h = names_asks_role s.configuration.role w place asked h

names_injects : (subnets : List Subnetwork) (w : LabelledNetwork) (subnet : ℕ) (found : Option Subnetwork) (sender : List ℕ) (target : Target) (octets : List ℕ)
    → slice_get subnets subnet ≡ found → AreNamedSubnets subnets → AreNamed w → Names (network.injects_on w subnet found sender target octets)
names_injects subnets w subnet None sender target octets e named h = names_nothing w h
names_injects subnets w subnet (Some declared) sender target octets e named h =
    record { world = h; lines = (AllByRecursion-slice_get (λ (s : Subnetwork). IsInLine s.name) subnets subnet declared e named, tt) }

-- ---- the network changes

names_told : (s : SystemState) (told : Note) (w : LabelledNetwork) → IsNamedSystem s → IsNoteInLine told → AreNamed w → Names (network.tells_of s told w)
names_told s told w is words h = record { world = h; lines = ((is, words), tt) }

names_changes : (w : LabelledNetwork) (place : ℕ) (change : Change) (s : SystemState) (told : Note) → IsNamedSystem s → IsNoteInLine told → AreNamed w
    → Names (network.followed_by (network.comes w place (IsChanged change)) (network.tells_of s told))
names_changes w place change s told is words h =
    let first = names_comes w place (IsChanged change) h in
    names_then (network.comes w place (IsChanged change)) (network.tells_of s told) first
    (names_told s told (network.comes w place (IsChanged change)).world is words first.world)

names_moves_to : (w : LabelledNetwork) (place number subnet : ℕ) (snpa : List ℕ) (mtu : ℕ) (declared : Subnetwork) (s : SystemState) (port : Option PortConfig)
    → IsInLine declared.name → IsNamedSystem s → AreNamed w → Names (network.moves_port_to w place number subnet snpa mtu declared s port)
names_moves_to w place number subnet snpa mtu declared s None named is h = names_nothing w h
names_moves_to w place number subnet snpa mtu declared s (Some port) named is h =
    names_changes w place (PortIsAt number (network.moved port subnet mtu snpa)) s (note.Port number declared.name snpa) is named h

names_moves_of : (w : LabelledNetwork) (place number subnet : ℕ) (snpa : List ℕ) (mtu : ℕ) (declared : Subnetwork) (s : Option SystemState)
    → slice_get w.systems place ≡ s → IsInLine declared.name → AreNamed w
    → Names (network.moves_port_of w place number subnet snpa mtu declared s)
names_moves_of w place number subnet snpa mtu declared None e named h = names_nothing w h
names_moves_of w place number subnet snpa mtu declared (Some s) e named h =
    names_moves_to w place number subnet snpa mtu declared s (slice_get s.attached.ports number) named (there w place s e h) h

names_moves : (subnets : List Subnetwork) (w : LabelledNetwork) (place number subnet : ℕ) (snpa : List ℕ) (found : Option Subnetwork) (mtu : Option ℕ)
    → slice_get subnets subnet ≡ found → AreNamedSubnets subnets → AreNamed w
    → Names (network.moves_port_on w place number subnet snpa found mtu)
names_moves subnets w place number subnet snpa None mtu e named h = names_nothing w h
names_moves subnets w place number subnet snpa (Some declared) None e named h = names_nothing w h
names_moves subnets w place number subnet snpa (Some declared) (Some mtu) e named h =
    names_moves_of w place number subnet snpa mtu declared (slice_get w.systems place) refl
    (AllByRecursion-slice_get (λ (s : Subnetwork). IsInLine s.name) subnets subnet declared e named) h

names_if : (test : Bool) (w : LabelledNetwork) (part : Step) → Names part → AreNamed w → Names (cond test part (network.nothing w))
names_if true w part k h = k
names_if false w part k h = names_nothing w h

names_sets_as : (role : Role) (w : LabelledNetwork) (place : ℕ) (s : SystemState) (route : Route) → IsNamedSystem s → AreNamed w
    → Names (network.sets_route_as role w place s route)
names_sets_as Host w place s route is h = names_nothing w h
names_sets_as Router w place s route is h =
    names_if (nat_lt route.port (length s.attached.ports)) w
    (network.followed_by (network.comes w place (IsChanged (RouteIsSet route))) (network.tells_of s (note.Route route.prefix)))
    (names_changes w place (RouteIsSet route) s (note.Route route.prefix) is tt h) h

names_sets : (w : LabelledNetwork) (place : ℕ) (route : Route) (s : Option SystemState) → slice_get w.systems place ≡ s → AreNamed w
    → Names (network.sets_route_of w place route s)
names_sets w place route None e h = names_nothing w h
names_sets w place route (Some s) e h = names_sets_as s.configuration.role w place s route (there w place s e h) h

names_removes_as : (role : Role) (w : LabelledNetwork) (place : ℕ) (s : SystemState) (prefix : List ℕ) → IsNamedSystem s → AreNamed w
    → Names (network.removes_route_as role w place s prefix)
names_removes_as Host w place s prefix is h = names_nothing w h
names_removes_as Router w place s prefix is h =
    names_changes w place (RouteIsGone prefix) s (note.Unroute prefix (list_any (has_prefix prefix) s.attached.routes)) is tt h

names_removes : (w : LabelledNetwork) (place : ℕ) (prefix : List ℕ) (s : Option SystemState) → slice_get w.systems place ≡ s → AreNamed w
    → Names (network.removes_route_of w place prefix s)
names_removes w place prefix None e h = names_nothing w h
names_removes w place prefix (Some s) e h = names_removes_as s.configuration.role w place s prefix (there w place s e h) h

names_resizes_port : (w : LabelledNetwork) (place number subnet mtu : ℕ) (port : Option PortConfig) → AreNamed w
    → Names (network.resizes_port_of w place number subnet mtu port)
names_resizes_port w place number subnet mtu None h = names_nothing w h
names_resizes_port w place number subnet mtu (Some port) h =
    names_if (port.subnet == subnet) w (network.comes w place (IsChanged (PortTakes number mtu)))
    (names_comes w place (IsChanged (PortTakes number mtu)) h) h

names_resizes_ports : (w : LabelledNetwork) (place subnet mtu : ℕ) (numbers : List ℕ) → AreNamed w → Names (network.resizes_ports w place subnet mtu numbers)
names_resizes_ports w place subnet mtu [] h = names_nothing w h
names_resizes_ports w place subnet mtu (number ∷ numbers) h =
    let part = network.resizes_port w place number subnet mtu in
    let first : Names part
    = names_resizes_port w place number subnet mtu (slice_get (network.ports_of (slice_get w.systems place)) number) h in
    names_then part (λ v. network.resizes_ports v place subnet mtu numbers) first
    (names_resizes_ports part.world place subnet mtu numbers first.world)

names_resizes_each : (w : LabelledNetwork) (subnet mtu : ℕ) (places : List ℕ) → AreNamed w → Names (network.resizes_each w subnet mtu places)
names_resizes_each w subnet mtu [] h = names_nothing w h
names_resizes_each w subnet mtu (place ∷ places) h =
    let part = network.resizes_at w place subnet mtu in
    let first : Names part
    = names_resizes_ports w place subnet mtu (range_with_len 0 (length (network.ports_of (slice_get w.systems place)))) h in
    names_then part (λ v. network.resizes_each v subnet mtu places) first (names_resizes_each part.world subnet mtu places first.world)

names_resizes : (subnets : List Subnetwork) (w : LabelledNetwork) (subnet mtu : ℕ) (found : Option Subnetwork) → slice_get subnets subnet ≡ found
    → AreNamedSubnets subnets → AreNamed w → Names (network.resizes_on w subnet mtu found)
names_resizes subnets w subnet mtu None e named h = names_nothing w h
names_resizes subnets w subnet mtu (Some declared) e named h =
    let part = network.resizes_each (record w { mtus = slice_set w.mtus subnet mtu }) subnet mtu (range_with_len 0 (length w.systems)) in
    let first : Names part
    = names_resizes_each (record w { mtus = slice_set w.mtus subnet mtu }) subnet mtu (range_with_len 0 (length w.systems)) h in
    names_then part (λ v. network.writes v (Resized v.clock declared.name mtu)) first record {
      world = first.world;
      lines = (AllByRecursion-slice_get (λ (s : Subnetwork). IsInLine s.name) subnets subnet declared e named, tt);
    }

names_event : (subnets : List Subnetwork) (limits : Limits) (w : LabelledNetwork) (event : Option Event) → AreNamedSubnets subnets → AreNamed w
    → Names (network.event_happens subnets limits w event)
names_event subnets limits w None named h = names_nothing w h
names_event subnets limits w (Some (Settle count)) named h = names_nothing w h
names_event subnets limits w (Some (Lose count)) named h = names_nothing w h
names_event subnets limits w (Some (Tick count)) named h = names_nothing w h
names_event subnets limits w (Some (event.TickSystem system count)) named h = names_nothing w h
names_event subnets limits w (Some (Deliver copy system)) named h = names_deliver_at limits w copy system (slice_get w.systems system) refl h
names_event subnets limits w (Some (Restart system)) named h = names_comes w system IsRestarted h
names_event subnets limits w (Some (Congest system on)) named h = names_comes w system (IsCongested on) h
names_event subnets limits w (Some (Send system from to body ask)) named h =
    names_asks w system (AsksToSend from to (octets_of body) ask) (slice_get w.systems system) h
names_event subnets limits w (Some (Echo system from to body)) named h = names_comes w system (AsksForEcho from to (octets_of body)) h
names_event subnets limits w (Some (Inject subnet from to octets)) named h =
    names_injects subnets w subnet (slice_get subnets subnet) from to octets refl named h
names_event subnets limits w (Some (event.Mtu subnet mtu)) named h = names_resizes subnets w subnet mtu (slice_get subnets subnet) refl named h
names_event subnets limits w (Some (event.Route system route)) named h = names_sets w system route (slice_get w.systems system) refl h
names_event subnets limits w (Some (event.Unroute system prefix)) named h = names_removes w system prefix (slice_get w.systems system) refl h
names_event subnets limits w (Some (event.Port system number subnet snpa)) named h =
    names_moves subnets w system number subnet snpa (slice_get subnets subnet) (slice_get w.mtus subnet) refl named h

-- one move
pub names_after : (plan : Plan) (w : LabelledNetwork) (move : Move) → AreNamedSubnets plan.subnets → AreNamed w → Names (after plan w move)
names_after plan w (One place) named h = names_event plan.subnets plan.limits w (slice_get plan.events place) named h
names_after plan w SettleOne named h = names_settle plan.limits w (slice_get w.copies w.cursor) h
names_after plan w LoseOne named h = names_lose w (slice_get w.copies w.cursor) h
names_after plan w TickOne named h = names_tick_each (record w { clock = w.clock + 1 }) (range_with_len 0 (length w.systems)) h
names_after plan w (TickSystem place) named h = names_tick_alone w place (slice_get w.systems place) h

-- ---- the names of a scenario

names_from : (limits : Limits) (place : ℕ) (systems : List SystemConfiguration) → AllByRecursion (λ (s : SystemConfiguration). is_name s.name ≡ true) systems
    → AllByRecursion IsNamedSystem (network.states_from limits place systems)
names_from limits place [] h = tt
names_from limits place (s ∷ systems) h = (name_is_word s.name h.0, names_from limits (place + 1) systems h.1)

pub names_first : (plan : Plan) → IsFit plan → AreNamed (first_world plan)
names_first plan fit = names_from plan.limits 0 plan.systems fit.named_systems

pub names_subnets : (plan : Plan) → IsFit plan → AreNamedSubnets plan.subnets
names_subnets plan fit =
    AllByRecursion-implies (λ (s : Subnetwork). is_name s.name ≡ true) (λ (s : Subnetwork). IsInLine s.name)
    (λ s is. word_in_line s.name (name_is_word s.name is)) plan.subnets fit.named_subnets
