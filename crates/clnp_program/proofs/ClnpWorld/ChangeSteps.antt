-- What a network of the code stands for after an event that changed something of it.
use Rattle.std.proofs.Common.{◌≡◌, ℕ, ◌+◌, ◌<◌, ◌≤◌, ◌==◌, List, [], ◌∷◌, length, cond, Bool, true, false, Option, Some, None, refl, sym, ap, ◌∙◌, ◌++◌, subst, arith, zero-add}
use Rattle.std.specs.Prelude.{slice_get, slice_set}
use Rattle.std.specs.List.{range_with_len}
use Rattle.std.proofs.lemmas.Bool.{lt-ltb, le-ltb}
use Rattle.std.proofs.lemmas.Option.{slice_get_past, slice_get_within as within_get}
use Rattle.clnp_machine.specs.Change.{Change, PortIsAt, PortTakes, RouteIsGone, RouteIsSet}
use Rattle.clnp_machine.specs.ClnpPlan.Configuration.{IsWithin}
use Rattle.clnp_machine.specs.ClnpPlan.Journal.{Noted, Resized}
use Rattle.clnp_machine.specs.ClnpPlan.declared.config.PortConfig.{PortConfig}
use Rattle.clnp_machine.specs.ClnpPlan.declared.config.Role.{Role}
use Rattle.clnp_machine.specs.ClnpPlan.declared.config.Role.TheVariants.{Host, Router}
use Rattle.clnp_machine.specs.ClnpPlan.declared.note.Note.{Note}
use Rattle.clnp_machine.specs.ClnpPlan.declared.note.Note.TheVariants as note
use Rattle.clnp_machine.specs.SystemTables.declared.forwarding.route.Route.{Route}
use Rattle.clnp_machine.specs.Step.{step}
use Rattle.clnp_machine.specs.System.{IsChanged, SystemState}
use Rattle.clnp_machine.specs.ScenarioPlan.Plan.{Subnetwork}
use Rattle.clnp_machine.specs.ClnpNetwork.LabelledNetwork as network
use Rattle.clnp_systems.specs.Stands as clnp_systems
use Rattle.clnp_systems.specs.declared.system.System.{System}
use Rattle.clnp_program.specs.ClnpWorld.Changing.{GoesTo, MovesPort, RemovesRoute, SetsRoute, TakesAsPort, TakesMtu, TakesWhereOn}
use Rattle.clnp_program.specs.ClnpWorld.Lines.{Gains, Taken}
use Rattle.clnp_program.specs.ClnpWorld.Parts.{Changes, Follows, Holds, IsRunning, Puts, Shows}
use Rattle.clnp_program.specs.ClnpWorld.Stands.{StandEach}
use Rattle.clnp_program.specs.declared.clnp_world.network.Network.{Network}
use Rattle.clnp_machine.proofs.ClnpBase.Lists.{AllByRecursion-slice_get, slice_get-set, slice_set-same}
use Rattle.clnp_machine.proofs.ClnpBase.ListSteps.{all_set, range_push}
use Rattle.clnp_program.proofs.ClnpWorld.EachSteps.{each_length, each_set}
use Rattle.clnp_program.proofs.ClnpWorld.GiveSteps.{follows_nothing, follows_then, system_there}
use Rattle.clnp_program.proofs.ClnpWorld.LineSteps.{gains_nothing}
use Rattle.clnp_program.proofs.ClnpWorld.ModelSteps.{each-push}
use Rattle.clnp_program.proofs.ClnpWorld.TakeSteps.{comes_follows, is_behind, is_there, shows_with, with_node}

-- A system is attached elsewhere.

pub changes : (old : Network) (place : ℕ) (new : System) (change : Change) (lines : Taken) (model : network.LabelledNetwork) (system : SystemState) → Holds old model
    → slice_get model.systems place ≡ Some system → GoesTo change system new
    → Follows (with_node old place new) lines lines (network.comes model place (IsChanged change))
changes old place new change lines model system h there goes =
    let code = with_node old place new in
    let puts : Puts code lines lines (network.comes model place (IsChanged change))
    = subst (λ (s : Option SystemState). Puts code lines lines (network.comes_to model place (IsChanged change) s)) (sym there)
    record {
      shows = shows_with old place new model (step system (IsChanged change)) h.shows goes (h.shows.placed place system there);
      lines = gains_nothing lines;
    } in
    comes_follows old code lines lines place (IsChanged change) model h (is_behind old place model h) puts

-- the system at the place is then the one behind the change
changed_there : (model : network.LabelledNetwork) (place : ℕ) (system : SystemState) (change : Change) → slice_get model.systems place ≡ Some system
    → slice_get (network.comes model place (IsChanged change)).world.systems place ≡ Some (step system (IsChanged change)).after
changed_there model place system change there =
    let after = (step system (IsChanged change)).after in
    subst (λ (s : Option SystemState). slice_get (network.comes_to model place (IsChanged change) s).world.systems place ≡ Some after) (sym there)
    (slice_get-set model.systems place after (within_get model.systems place system there))

-- the line of a note of the system at a place is written
abbrev pub WritesNote : Network → Taken → Taken → ℕ → Note → Type 0
WritesNote code before after place told =
    (model : network.LabelledNetwork) (system : SystemState) → Shows code model → slice_get model.systems place ≡ Some system
    → Gains before after (Noted system.moment system.configuration.name told ∷ [])

changes_and_tells : (old : Network) (before after : Taken) (place : ℕ) (new : System) (change : Change) (told : Note)
    → WritesNote (with_node old place new) before after place told
    → (model : network.LabelledNetwork) (system : SystemState) → Holds old model → slice_get model.systems place ≡ Some system → GoesTo change system new
    → Follows (with_node old place new) before after
    (network.followed_by (network.comes model place (IsChanged change)) (network.tells_of system told))
changes_and_tells old before after place new change told writes model system h there goes =
    let part = network.comes model place (IsChanged change) in
    let front = changes old place new change before model system h there goes in
    let line = writes part.world (step system (IsChanged change)).after front.holds.shows (changed_there model place system change there) in
    follows_then (with_node old place new) before before after part (network.tells_of system told) front.lines
    record { holds = front.holds; lines = line }

-- the system at the place stands for what it stood for
stays_at : (old : Network) (place : ℕ) (new : System) (model : network.LabelledNetwork) (system : SystemState) → Holds old model
    → slice_get model.systems place ≡ Some system → clnp_systems.Stands new system → Holds (with_node old place new) model
stays_at old place new model system h there stands = record {
  shows = record {
    clock = h.shows.clock;
    systems = subst (λ (systems : List SystemState). StandEach (slice_set old.systems.items place new) systems)
        (slice_set-same model.systems place system there)
        (each_set old.systems.items model.systems place new system h.shows.systems stands);
    mtus = h.shows.mtus;
    wide = h.shows.wide;
    copies = h.shows.copies;
    cursor = h.shows.cursor;
    carried = h.shows.carried;
    born = h.shows.born;
    short = h.shows.short;
    weight = h.shows.weight;
    placed = h.shows.placed;
  };
  behind = h.behind;
}

stays_follows : (old : Network) (place : ℕ) (new : System) (lines : Taken) (model : network.LabelledNetwork) (system : SystemState) → Holds old model
    → slice_get model.systems place ≡ Some system → clnp_systems.Stands new system
    → Follows (with_node old place new) lines lines (network.nothing model)
stays_follows old place new lines model system h there stands =
    follows_nothing (with_node old place new) lines model (stays_at old place new model system h there stands)

-- A port is put on a subnetwork.

abbrev pub MovesAs : Network → Network → Taken → Taken → List Subnetwork → (place number subnet : ℕ) → (snpa : List ℕ) → Type 0
MovesAs old code before after subnets place number subnet snpa =
    (model : network.LabelledNetwork) → Holds old model → Follows code before after (network.moves_port subnets model place number subnet snpa)

module _ (subnets : List Subnetwork) (place number subnet : ℕ) (snpa : List ℕ) where
  on_no_mtu : (w : network.LabelledNetwork) (declared : Option Subnetwork)
      → network.moves_port_on w place number subnet snpa declared None ≡ network.nothing w
  on_no_mtu w None = refl
  on_no_mtu w (Some declared) = refl

  of_no_system : (w : network.LabelledNetwork) (declared : Option Subnetwork) (mtu : Option ℕ) → slice_get w.systems place ≡ None
      → network.moves_port_on w place number subnet snpa declared mtu ≡ network.nothing w
  of_no_system w None mtu none = refl
  of_no_system w (Some declared) None none = refl
  of_no_system w (Some declared) (Some mtu) none = ap (network.moves_port_of w place number subnet snpa mtu declared) none

  moves_to : (w : network.LabelledNetwork) (declared : Subnetwork) (mtu : ℕ) (system : SystemState) (found : Option PortConfig)
      → slice_get subnets subnet ≡ Some declared → slice_get w.mtus subnet ≡ Some mtu → slice_get w.systems place ≡ Some system
      → slice_get system.attached.ports number ≡ found
      → network.moves_port subnets w place number subnet snpa ≡ network.moves_port_to w place number subnet snpa mtu declared system found
  moves_to w declared mtu system found on wide there port =
      ap (λ (d : Option Subnetwork). network.moves_port_on w place number subnet snpa d (slice_get w.mtus subnet)) on
      ∙ ap (network.moves_port_on w place number subnet snpa (Some declared)) wide
      ∙ ap (network.moves_port_of w place number subnet snpa mtu declared) there
      ∙ ap (network.moves_port_to w place number subnet snpa mtu declared system) port

  -- the subnetwork wasn't declared
  pub moves_onto_none : (code : Network) (lines : Taken) → length subnets ≤ subnet → MovesAs code code lines lines subnets place number subnet snpa
  moves_onto_none code lines past model h =
      subst (λ (d : Option Subnetwork). Follows code lines lines (network.moves_port_on model place number subnet snpa d (slice_get model.mtus subnet)))
      (sym (slice_get_past subnets subnet past)) (follows_nothing code lines model h)

  -- nor has the network it
  pub moves_onto_no_mtu : (code : Network) (lines : Taken) → length code.mtus.items ≤ subnet → MovesAs code code lines lines subnets place number subnet snpa
  moves_onto_no_mtu code lines past model h =
      let none : slice_get model.mtus subnet ≡ None
      = subst (λ (mtus : List ℕ). slice_get mtus subnet ≡ None) h.shows.mtus (slice_get_past code.mtus.items subnet past) in
      subst (λ (s : network.Step). Follows code lines lines s)
      (sym (ap (network.moves_port_on model place number subnet snpa (slice_get subnets subnet)) none ∙ on_no_mtu model (slice_get subnets subnet)))
      (follows_nothing code lines model h)

  -- there is no system at the place
  pub moves_of_none : (code : Network) (lines : Taken) → length code.systems.items ≤ place → MovesAs code code lines lines subnets place number subnet snpa
  moves_of_none code lines past model h =
      let same = each_length code.systems.items model.systems h.shows.systems in
      let none = slice_get_past model.systems place (omega arith) in
      subst (λ (s : network.Step). Follows code lines lines s)
      (sym (of_no_system model (slice_get subnets subnet) (slice_get model.mtus subnet) none)) (follows_nothing code lines model h)

  -- the system has no such port
  pub moves_no_port : (old : Network) (lines : Taken) (declared : Subnetwork) (mtu : ℕ) (node new : System)
      → slice_get subnets subnet ≡ Some declared → slice_get old.mtus.items subnet ≡ Some mtu → slice_get old.systems.items place ≡ Some node
      → MovesPort false node new number subnet mtu snpa
      → MovesAs old (with_node old place new) lines lines subnets place number subnet snpa
  moves_no_port old lines declared mtu node new on wide here none model h =
      let there = is_there old model place node h.shows here in
      let has = none there.system there.stands in
      let mtu_is : slice_get model.mtus subnet ≡ Some mtu = subst (λ (mtus : List ℕ). slice_get mtus subnet ≡ Some mtu) h.shows.mtus wide in
      subst (λ (s : network.Step). Follows (with_node old place new) lines lines s)
      (sym (moves_to model declared mtu there.system None on mtu_is there.at has.none))
      (stays_follows old place new lines model there.system h there.at has.stays)

  -- it is elsewhere, and its line is written
  pub moves_there : (old : Network) (before after : Taken) (declared : Subnetwork) (mtu : ℕ) (node new : System)
      → slice_get subnets subnet ≡ Some declared → slice_get old.mtus.items subnet ≡ Some mtu → slice_get old.systems.items place ≡ Some node
      → MovesPort true node new number subnet mtu snpa
      → WritesNote (with_node old place new) before after place (note.Port number declared.name snpa)
      → MovesAs old (with_node old place new) before after subnets place number subnet snpa
  moves_there old before after declared mtu node new on wide here moves writes model h =
      let there = is_there old model place node h.shows here in
      let moved = moves there.system there.stands in
      let mtu_is : slice_get model.mtus subnet ≡ Some mtu = subst (λ (mtus : List ℕ). slice_get mtus subnet ≡ Some mtu) h.shows.mtus wide in
      subst (λ (s : network.Step). Follows (with_node old place new) before after s)
      (sym (moves_to model declared mtu there.system (Some moved.port) on mtu_is there.at moved.there))
      (changes_and_tells old before after place new (PortIsAt number (network.moved moved.port subnet mtu snpa))
      (note.Port number declared.name snpa) writes model there.system h there.at moved.goes)

-- the MTU of a subnetwork, as the network of the code has it, is one that a port may have
pub wide_at : (code : Network) (at mtu : ℕ) → IsRunning code → slice_get code.mtus.items at ≡ Some mtu → IsWithin 512 65535 mtu
wide_at code at mtu running read =
    let h = (running.1).shows in
    AllByRecursion-slice_get (IsWithin 512 65535) (running.0).mtus at mtu
    (subst (λ (mtus : List ℕ). slice_get mtus at ≡ Some mtu) h.mtus read) h.wide

-- A route is set, or removed.

abbrev pub RoutesAs : Network → Network → Taken → Taken → (place : ℕ) → Route → Type 0
RoutesAs old code before after place route =
    (model : network.LabelledNetwork) → Holds old model → Follows code before after (network.sets_route model place route)

-- there is no system at the place
pub routes_nowhere : (code : Network) (lines : Taken) (place : ℕ) (route : Route) → length code.systems.items ≤ place
    → RoutesAs code code lines lines place route
routes_nowhere code lines place route past model h =
    let same = each_length code.systems.items model.systems h.shows.systems in
    let none = slice_get_past model.systems place (omega arith) in
    subst (λ (s : Option SystemState). Follows code lines lines (network.sets_route_of model place route s)) (sym none)
    (follows_nothing code lines model h)

sets_nothing : (role : Role) (w : network.LabelledNetwork) (place : ℕ) (system : SystemState) (route : Route)
    → (role ≡ Router → length system.attached.ports ≤ route.port) → network.sets_route_as role w place system route ≡ network.nothing w
sets_nothing Host w place system route past = refl
sets_nothing Router w place system route past =
    ap (λ (b : Bool). cond b (network.followed_by (network.comes w place (IsChanged (RouteIsSet route))) (network.tells_of system (note.Route route.prefix))) (network.nothing w))
    (le-ltb route.port (length system.attached.ports) (past refl))

-- it is a host, or has no such port
pub routes_nothing : (old : Network) (lines : Taken) (place : ℕ) (node new : System) (route : Route) → slice_get old.systems.items place ≡ Some node
    → SetsRoute false node new route → RoutesAs old (with_node old place new) lines lines place route
routes_nothing old lines place node new route here sets model h =
    let there = is_there old model place node h.shows here in
    let isnt = sets there.system there.stands in
    subst (λ (s : network.Step). Follows (with_node old place new) lines lines s)
    (sym (ap (network.sets_route_of model place route) there.at
    ∙ sets_nothing there.system.configuration.role model place there.system route isnt.leads_nowhere))
    (stays_follows old place new lines model there.system h there.at isnt.stays)

sets_there : (w : network.LabelledNetwork) (place : ℕ) (system : SystemState) (route : Route) → slice_get w.systems place ≡ Some system
    → system.configuration.role ≡ Router → route.port < length system.attached.ports
    → network.sets_route w place route
    ≡ network.followed_by (network.comes w place (IsChanged (RouteIsSet route))) (network.tells_of system (note.Route route.prefix))
sets_there w place system route there router leads =
    ap (network.sets_route_of w place route) there
    ∙ ap (λ (r : Role). network.sets_route_as r w place system route) router
    ∙ ap (λ (b : Bool). cond b (network.followed_by (network.comes w place (IsChanged (RouteIsSet route))) (network.tells_of system (note.Route route.prefix))) (network.nothing w))
    (lt-ltb route.port (length system.attached.ports) leads)

-- it is set, and its line is written
pub routes_there : (old : Network) (before after : Taken) (place : ℕ) (node new : System) (route : Route) → slice_get old.systems.items place ≡ Some node
    → SetsRoute true node new route → WritesNote (with_node old place new) before after place (note.Route route.prefix)
    → RoutesAs old (with_node old place new) before after place route
routes_there old before after place node new route here sets writes model h =
    let there = is_there old model place node h.shows here in
    let is = sets there.system there.stands in
    subst (λ (s : network.Step). Follows (with_node old place new) before after s)
    (sym (sets_there model place there.system route there.at is.router is.leads))
    (changes_and_tells old before after place new (RouteIsSet route) (note.Route route.prefix) writes model there.system h there.at is.goes)

abbrev pub UnroutesAs : Network → Network → Taken → Taken → (place : ℕ) → (prefix : List ℕ) → Type 0
UnroutesAs old code before after place prefix =
    (model : network.LabelledNetwork) → Holds old model → Follows code before after (network.removes_route model place prefix)

-- there is no system at the place
pub unroutes_nowhere : (code : Network) (lines : Taken) (place : ℕ) (prefix : List ℕ) → length code.systems.items ≤ place
    → UnroutesAs code code lines lines place prefix
unroutes_nowhere code lines place prefix past model h =
    let same = each_length code.systems.items model.systems h.shows.systems in
    let none = slice_get_past model.systems place (omega arith) in
    subst (λ (s : Option SystemState). Follows code lines lines (network.removes_route_of model place prefix s)) (sym none)
    (follows_nothing code lines model h)

removes_as : (w : network.LabelledNetwork) (place : ℕ) (system : SystemState) (prefix : List ℕ) (role : Role) → slice_get w.systems place ≡ Some system
    → system.configuration.role ≡ role → network.removes_route w place prefix ≡ network.removes_route_as role w place system prefix
removes_as w place system prefix role there is =
    ap (network.removes_route_of w place prefix) there ∙ ap (λ (r : Role). network.removes_route_as r w place system prefix) is

-- it is a host
pub unroutes_nothing : (old : Network) (lines : Taken) (place : ℕ) (node new : System) (prefix : List ℕ) → slice_get old.systems.items place ≡ Some node
    → RemovesRoute None node new prefix → UnroutesAs old (with_node old place new) lines lines place prefix
unroutes_nothing old lines place node new prefix here removes model h =
    let there = is_there old model place node h.shows here in
    let is = removes there.system there.stands in
    subst (λ (s : network.Step). Follows (with_node old place new) lines lines s)
    (sym (removes_as model place there.system prefix Host there.at is.host))
    (stays_follows old place new lines model there.system h there.at is.stays)

-- it is removed, and a line tells whether it was there
pub unroutes_there : (old : Network) (before after : Taken) (place : ℕ) (node new : System) (prefix : List ℕ) (was : Bool)
    → slice_get old.systems.items place ≡ Some node → RemovesRoute (Some was) node new prefix
    → WritesNote (with_node old place new) before after place (note.Unroute prefix was)
    → UnroutesAs old (with_node old place new) before after place prefix
unroutes_there old before after place node new prefix was here removes writes model h =
    let there = is_there old model place node h.shows here in
    let is = removes there.system there.stands in
    subst (λ (s : network.Step). Follows (with_node old place new) before after s)
    (sym (removes_as model place there.system prefix Router there.at is.router))
    (subst (λ (b : Bool). Follows (with_node old place new) before after
    (network.followed_by (network.comes model place (IsChanged (RouteIsGone prefix))) (network.tells_of there.system (note.Unroute prefix b)))) is.was_there
    (changes_and_tells old before after place new (RouteIsGone prefix) (note.Unroute prefix was) writes model there.system h there.at is.goes))

-- A subnetwork takes frames of another length.

pub changes_then : (start mid code : Network) (part next : network.LabelledNetwork → network.Step) → Changes start mid part → Changes mid code next
    → Changes start code (λ w. network.followed_by (part w) next)
changes_then start mid code part next first then model lines h =
    let front = first model lines h in
    follows_then code lines lines lines (part model) next front.lines (then (part model).world lines front.holds)

pub changes_none : (code : Network) → Changes code code network.nothing
changes_none code model lines h = follows_nothing code lines model h

-- one more place at which something is done, one after another
pub changes_more : (one : network.LabelledNetwork → ℕ → network.Step) (each : network.LabelledNetwork → List ℕ → network.Step)
    → ((w : network.LabelledNetwork) → each w [] ≡ network.nothing w)
    → ((w : network.LabelledNetwork) (place : ℕ) (places : List ℕ) → each w (place ∷ places) ≡ network.followed_by (one w place) (λ v. each v places))
    → (start mid code : Network) (n : ℕ) → Changes start mid (λ w. each w (range_with_len 0 n)) → Changes mid code (λ w. one w n)
    → Changes start code (λ w. each w (range_with_len 0 (n + 1)))
changes_more one each none more start mid code n first then model lines h =
    let same : network.followed_by (each model (range_with_len 0 n)) (λ v. one v n) ≡ each model (range_with_len 0 (n + 1))
    = sym (ap (each model) (range_push 0 n ∙ ap (λ (i : ℕ). range_with_len 0 n ++ i ∷ []) (zero-add n)) ∙ each-push one each none more model (range_with_len 0 n) n) in
    subst (λ (s : network.Step). Follows code lines lines s) same
    (changes_then start mid code (λ w. each w (range_with_len 0 n)) (λ w. one w n) first then model lines h)

-- a port takes frames of so many octets
pub takes_mtu : (old : Network) (place number subnet mtu : ℕ) (node new : System) → slice_get old.systems.items place ≡ Some node
    → TakesMtu node new number subnet mtu → Changes old (with_node old place new) (λ w. network.resizes_port w place number subnet mtu)
takes_mtu old place number subnet mtu node new here takes model lines h =
    let there = is_there old model place node h.shows here in
    let system = there.system in
    subst (λ (s : Option SystemState). Follows (with_node old place new) lines lines
    (network.resizes_port_of model place number subnet mtu (slice_get (network.ports_of s) number))) (sym there.at)
    (by_port system there.at (slice_get system.attached.ports number) (takes system there.stands))
  where
    by_test : (system : SystemState) → slice_get model.systems place ≡ Some system → (on : Bool) → TakesWhereOn on system new number mtu
        → Follows (with_node old place new) lines lines (cond on (network.comes model place (IsChanged (PortTakes number mtu))) (network.nothing model))
    by_test system at true goes = changes old place new (PortTakes number mtu) lines model system h at goes
    by_test system at false stands = stays_follows old place new lines model system h at stands

    by_port : (system : SystemState) → slice_get model.systems place ≡ Some system → (found : Option PortConfig)
        → TakesAsPort found system new number subnet mtu
        → Follows (with_node old place new) lines lines (network.resizes_port_of model place number subnet mtu found)
    by_port system at None stands = stays_follows old place new lines model system h at stands
    by_port system at (Some port) takes = by_test system at (port.subnet == subnet) takes

-- so do one port more of a system, and one more system
pub takes_more : (start mid : Network) (place number subnet mtu : ℕ) (node new : System)
    → Changes start mid (λ w. network.resizes_ports w place subnet mtu (range_with_len 0 number))
    → slice_get mid.systems.items place ≡ Some node → TakesMtu node new number subnet mtu
    → Changes start (with_node mid place new) (λ w. network.resizes_ports w place subnet mtu (range_with_len 0 (number + 1)))
takes_more start mid place number subnet mtu node new so_far here takes =
    changes_more (λ w n. network.resizes_port w place n subnet mtu) (λ w ns. network.resizes_ports w place subnet mtu ns)
    (λ w. refl) (λ w n ns. refl) start mid (with_node mid place new) number so_far (takes_mtu mid place number subnet mtu node new here takes)

pub resizes_more : (start mid code : Network) (place subnet mtu : ℕ) → Changes start mid (λ w. network.resizes_each w subnet mtu (range_with_len 0 place))
    → Changes mid code (λ w. network.resizes_at w place subnet mtu)
    → Changes start code (λ w. network.resizes_each w subnet mtu (range_with_len 0 (place + 1)))
resizes_more start mid code place subnet mtu so_far one =
    changes_more (λ w n. network.resizes_at w n subnet mtu) (λ w ns. network.resizes_each w subnet mtu ns)
    (λ w. refl) (λ w n ns. refl) start mid code place so_far one

-- each port of the system at a place was looked at
pub takes_all : (start code : Network) (place number count subnet mtu : ℕ) → place < length start.systems.items
    → Changes start code (λ w. network.resizes_ports w place subnet mtu (range_with_len 0 number))
    → ((model : network.LabelledNetwork) (system : SystemState) → Shows start model → slice_get model.systems place ≡ Some system
    → count ≡ length system.attached.ports)
    → number ≡ count → Changes start code (λ w. network.resizes_at w place subnet mtu)
takes_all start code place number count subnet mtu within so_far counts all model lines h =
    let there = system_there start model place h.shows within in
    let n : number ≡ length (network.ports_of (slice_get model.systems place))
    = all ∙ counts model there.0 h.shows there.1 ∙ ap (λ (s : Option SystemState). length (network.ports_of s)) (sym there.1) in
    subst (λ (k : ℕ). Follows code lines lines (network.resizes_ports model place subnet mtu (range_with_len 0 k))) n (so_far model lines h)

-- each system was
pub resizes_all : (start code : Network) (place subnet mtu : ℕ) → Changes start code (λ w. network.resizes_each w subnet mtu (range_with_len 0 place))
    → place ≡ length start.systems.items
    → Changes start code (λ w. network.resizes_each w subnet mtu (range_with_len 0 (length w.systems)))
resizes_all start code place subnet mtu so_far all model lines h =
    let same = each_length start.systems.items model.systems h.shows.systems in
    subst (λ (k : ℕ). Follows code lines lines (network.resizes_each model subnet mtu (range_with_len 0 k))) (all ∙ same) (so_far model lines h)

-- the network keeps how long the frames of a subnetwork may be
keeps_mtu : (old code : Network) (at mtu : ℕ) → IsWithin 512 65535 mtu → code.mtus.items ≡ slice_set old.mtus.items at mtu
    → code ≡ record old { mtus = code.mtus }
    → (model : network.LabelledNetwork) → Holds old model → Holds code (record model { mtus = slice_set model.mtus at mtu })
keeps_mtu old code at mtu wide is others model h =
    subst (λ (w : Network). Holds w (record model { mtus = slice_set model.mtus at mtu })) (sym others)
    record {
      shows = record {
        clock = h.shows.clock;
        systems = h.shows.systems;
        mtus = is ∙ ap (λ (mtus : List ℕ). slice_set mtus at mtu) h.shows.mtus;
        wide = all_set (IsWithin 512 65535) model.mtus at mtu h.shows.wide wide;
        copies = h.shows.copies;
        cursor = h.shows.cursor;
        carried = h.shows.carried;
        born = h.shows.born;
        short = h.shows.short;
        weight = h.shows.weight;
        placed = h.shows.placed;
      };
      behind = h.behind;
    }

abbrev pub ResizesAs : Network → Network → Taken → Taken → List Subnetwork → (subnet mtu : ℕ) → Type 0
ResizesAs old code before after subnets subnet mtu =
    (model : network.LabelledNetwork) → Holds old model → Follows code before after (network.resizes subnets model subnet mtu)

-- it wasn't declared
pub resizes_none : (code : Network) (lines : Taken) (subnets : List Subnetwork) (subnet mtu : ℕ) → length subnets ≤ subnet
    → ResizesAs code code lines lines subnets subnet mtu
resizes_none code lines subnets subnet mtu past model h =
    subst (λ (d : Option Subnetwork). Follows code lines lines (network.resizes_on model subnet mtu d)) (sym (slice_get_past subnets subnet past))
    (follows_nothing code lines model h)

-- it does, each port on it, too, and its line is written
pub resizes_there : (old mid code : Network) (before after : Taken) (subnets : List Subnetwork) (subnet mtu : ℕ) (declared : Subnetwork)
    → slice_get subnets subnet ≡ Some declared → IsWithin 512 65535 mtu
    → mid.mtus.items ≡ slice_set old.mtus.items subnet mtu → mid ≡ record old { mtus = mid.mtus }
    → Changes mid code (λ w. network.resizes_each w subnet mtu (range_with_len 0 (length w.systems)))
    → Gains before after (Resized code.clock declared.name mtu ∷ [])
    → ResizesAs old code before after subnets subnet mtu
resizes_there old mid code before after subnets subnet mtu declared on wide is others changed line model h =
    let w : network.LabelledNetwork = record model { mtus = slice_set model.mtus subnet mtu } in
    let front = changed w before (keeps_mtu old mid subnet mtu wide is others model h) in
    let part = network.resizes_each w subnet mtu (range_with_len 0 (length model.systems)) in
    let told = subst (λ (now : ℕ). Gains before after (Resized now declared.name mtu ∷ [])) front.holds.shows.clock line in
    subst (λ (d : Option Subnetwork). Follows code before after (network.resizes_on model subnet mtu d)) (sym on)
    (follows_then code before before after part (λ v. network.writes v (Resized v.clock declared.name mtu)) front.lines
    record { holds = front.holds; lines = told })
