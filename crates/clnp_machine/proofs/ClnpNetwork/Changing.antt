-- What comes of events that change a network.
use Rattle.std.proofs.Common.{◌≡◌, ◌∙◌, refl, sym, ap, subst, ℕ, ◌<◌, ◌≤◌, inl, inr, Bool, true, false, List, [], ◌∷◌, length, map, Option, None, Some, append-nil, arith}
use Rattle.std.specs.Prelude.{◌==◌, if◌then◌else◌, nat_lt, slice_get, slice_set}
use Rattle.std.specs.List.{list_any, range_with_len}
use Rattle.std.proofs.lemmas.Bool.{cases_Bool}
use Rattle.std.proofs.lemmas.List.{set-set}
use Rattle.std.proofs.lemmas.Option.{slice_get_within}
use Rattle.clnp_plan.proofs.ClnpBase.Choices.{one_of}
use Rattle.clnp_plan.proofs.ClnpBase.ListSteps.{map_set}
use Rattle.clnp_plan.proofs.ClnpBase.Lists.{slice_get-set, slice_set-same}
use Rattle.clnp_plan.specs.Journal.{Noted, Resized}
use Rattle.clnp_plan.specs.declared.config.Limits.{Limits}
use Rattle.clnp_plan.specs.declared.config.PortConfig.{PortConfig}
use Rattle.clnp_plan.specs.declared.config.Role.{Role}
use Rattle.clnp_plan.specs.declared.config.Role.TheVariants.{Host, Router}
use Rattle.clnp_plan.specs.declared.note.Note.{Note}
use Rattle.clnp_plan.specs.declared.note.Note.TheVariants as note
use Rattle.clnp_plan.specs.Forwarding.Distinct.{has_prefix}
use Rattle.clnp_plan.specs.Forwarding.Setting.{set_in, without}
use Rattle.clnp_plan.specs.SystemTables.declared.forwarding.route.Route.{Route}
use Rattle.clnp_machine.specs.Change.{Change, PortIsAt, PortTakes, RouteIsGone, RouteIsSet, ports_taking}
use Rattle.clnp_machine.specs.System.{SystemState, IsChanged, IsRestarted}
use Rattle.clnp_machine.specs.Local.{restarted}
use Rattle.clnp_machine.specs.Step.{as_changed}
use Rattle.clnp_machine.specs.Unit.{DataUnit}
use Rattle.clnp_plan.specs.ScenarioPlan.Plan.{Subnetwork}
use Rattle.clnp_plan.specs.declared.scenario_plan.event.Event.{Event}
use Rattle.clnp_plan.specs.declared.scenario_plan.event.Event.TheVariants as event
use Rattle.clnp_machine.specs.ClnpNetwork.Changed.{ChangesNetwork, KeepsAttachments, KeepsTraffic, resized, unattached, with_frames, with_moved, with_resized, with_routes, with_system}
use Rattle.clnp_machine.specs.ClnpNetwork.LabelledNetwork.{Step, LabelledNetwork, comes, comes_to, event_happens, followed_by, moved, moves_port, moves_port_of, moves_port_on, moves_port_to, nothing, ports_of, removes_route, removes_route_as, removes_route_of, resizes, resizes_each, resizes_on, resizes_port_of, resizes_ports, sets_route, sets_route_as, sets_route_of, tells_of, writes}
use Rattle.clnp_machine.proofs.ClnpNetwork.Sweeps.{change_at, sweep, sweep_all}

-- A change that comes to a system.

-- with these systems, and no lines
abbrev becomes : LabelledNetwork → List SystemState → Step
becomes w systems = nothing (record w { systems = systems })

change_comes : (w : LabelledNetwork) (place : ℕ) (s : SystemState) (change : Change) → slice_get w.systems place ≡ Some s
    → comes w place (IsChanged change) ≡ becomes w (slice_set w.systems place (as_changed change s))
change_comes w place s change there =
    ap (comes_to w place (IsChanged change)) there
    ∙ ap (λ (units : List DataUnit). nothing (record w { systems = slice_set w.systems place (as_changed change s); units = units })) (append-nil w.units)

-- Frames of other lengths.

module _ (subnet mtu : ℕ) where
  -- a system with these ports
  abbrev with_ports : SystemState → List PortConfig → SystemState
  with_ports s ports = record s { attached = record s.attached { ports = ports } }

  -- one port
  module _ (w : LabelledNetwork) (place : ℕ) (s : SystemState) (there : slice_get w.systems place ≡ Some s) (number : ℕ) where
    stays_so : nothing w ≡ becomes w (slice_set w.systems place s)
    stays_so = ap (becomes w) (sym (slice_set-same w.systems place s there))

    port_is : (found : Option PortConfig) → slice_get s.attached.ports number ≡ found
        → resizes_port_of w place number subnet mtu found
        ≡ becomes w (slice_set w.systems place (with_ports s (change_at (resized subnet mtu) number found s.attached.ports)))
    port_is None e = stays_so
    port_is (Some port) e =
        elim (cases_Bool (port.subnet == subnet)) [
          | inl on ↦
              rw on
              (change_comes w place s (PortTakes number mtu) there
              ∙ ap (λ (found : Option PortConfig). becomes w (slice_set w.systems place (with_ports s (ports_taking number mtu found s.attached.ports)))) e)
          | inr off ↦
              rw off
              (stays_so
              ∙ ap (λ (ports : List PortConfig). becomes w (slice_set w.systems place (with_ports s ports)))
              (sym (slice_set-same s.attached.ports number port e)))
        ]

  -- some ports of a system
  ports_are : (place : ℕ) (numbers : List ℕ) (w : LabelledNetwork) (s : SystemState) → slice_get w.systems place ≡ Some s
      → resizes_ports w place subnet mtu numbers
      ≡ becomes w (slice_set w.systems place (with_ports s (sweep (resized subnet mtu) numbers s.attached.ports)))
  ports_are place [] w s there = stays_so w place s there 0
  ports_are place (number ∷ numbers) w s there =
      let found = slice_get s.attached.ports number in
      let ports : List PortConfig = change_at (resized subnet mtu) number found s.attached.ports in
      let first : SystemState = with_ports s ports in
      let v : LabelledNetwork = record w { systems = slice_set w.systems place first } in
      ap (λ (system : Option SystemState). followed_by (resizes_port_of w place number subnet mtu (slice_get (ports_of system) number))
      (λ u. resizes_ports u place subnet mtu numbers)) there
      ∙ ap (λ (step : Step). followed_by step (λ u. resizes_ports u place subnet mtu numbers)) (port_is w place s there number found refl)
      ∙ ports_are place numbers v first (slice_get-set w.systems place first (slice_get_within w.systems place s there))
      ∙ ap (becomes w) (set-set w.systems place first (with_ports s (sweep (resized subnet mtu) numbers ports)))

  -- all of them, where there is a system
  system_is : (w : LabelledNetwork) (place : ℕ) (found : Option SystemState) → slice_get w.systems place ≡ found
      → resizes_ports w place subnet mtu (range_with_len 0 (length (ports_of found)))
      ≡ becomes w (change_at (with_resized subnet mtu) place found w.systems)
  system_is w place None e = refl
  system_is w place (Some s) e =
      ports_are place (range_with_len 0 (length s.attached.ports)) w s e
      ∙ ap (λ (ports : List PortConfig). becomes w (slice_set w.systems place (with_ports s ports))) (sweep_all (resized subnet mtu) s.attached.ports)

  -- those of the systems at some places
  systems_are : (places : List ℕ) (w : LabelledNetwork) → resizes_each w subnet mtu places ≡ becomes w (sweep (with_resized subnet mtu) places w.systems)
  systems_are [] w = refl
  systems_are (place ∷ places) w =
      let systems : List SystemState = change_at (with_resized subnet mtu) place (slice_get w.systems place) w.systems in
      ap (λ (step : Step). followed_by step (λ v. resizes_each v subnet mtu places)) (system_is w place (slice_get w.systems place) refl)
      ∙ systems_are places (record w { systems = systems })

  frames_are : (w : LabelledNetwork) (declared : Subnetwork) → resizes_on w subnet mtu (Some declared) ≡ writes (with_frames subnet mtu w) (Resized w.clock declared.name mtu)
  frames_are w declared =
      let first : LabelledNetwork = record w { mtus = slice_set w.mtus subnet mtu } in
      ap (λ (step : Step). followed_by step (λ v. writes v (Resized v.clock declared.name mtu)))
      (systems_are (range_with_len 0 (length w.systems)) first ∙ ap (becomes first) (sweep_all (with_resized subnet mtu) w.systems))

module _ (subnets : List Subnetwork) (w : LabelledNetwork) where
  pub subnetwork_takes : (subnet mtu : ℕ) (declared : Subnetwork) → slice_get subnets subnet ≡ Some declared
      → resizes subnets w subnet mtu ≡ writes (with_frames subnet mtu w) (Resized w.clock declared.name mtu)
  subnetwork_takes subnet mtu declared there = ap (resizes_on w subnet mtu) there ∙ frames_are subnet mtu w declared

  pub no_subnetwork_takes : (subnet mtu : ℕ) → slice_get subnets subnet ≡ None → resizes subnets w subnet mtu ≡ nothing w
  no_subnetwork_takes subnet mtu none = ap (resizes_on w subnet mtu) none

-- A change of a system, and the line that tells of it.

told_is : (w : LabelledNetwork) (place : ℕ) (s : SystemState) (change : Change) (told : Note) → slice_get w.systems place ≡ Some s
    → followed_by (comes w place (IsChanged change)) (tells_of s told)
    ≡ writes (with_system place (as_changed change s) w) (Noted s.moment s.configuration.name told)
told_is w place s change told there = ap (λ (step : Step). followed_by step (tells_of s told)) (change_comes w place s change there)

module _ (w : LabelledNetwork) (place : ℕ) where
  pub port_moves : (subnets : List Subnetwork) (number subnet mtu : ℕ) (snpa : List ℕ) (declared : Subnetwork) (s : SystemState) (port : PortConfig)
      → slice_get subnets subnet ≡ Some declared → slice_get w.mtus subnet ≡ Some mtu → slice_get w.systems place ≡ Some s
      → slice_get s.attached.ports number ≡ Some port
      → moves_port subnets w place number subnet snpa
      ≡ writes (with_system place (with_moved number subnet mtu snpa port s) w) (Noted s.moment s.configuration.name (note.Port number declared.name snpa))
  port_moves subnets number subnet mtu snpa declared s port is takes there has =
      ap (λ (found : Option Subnetwork). moves_port_on w place number subnet snpa found (slice_get w.mtus subnet)) is
      ∙ ap (moves_port_on w place number subnet snpa (Some declared)) takes
      ∙ ap (moves_port_of w place number subnet snpa mtu declared) there
      ∙ ap (moves_port_to w place number subnet snpa mtu declared s) has
      ∙ told_is w place s (PortIsAt number (moved port subnet mtu snpa)) (note.Port number declared.name snpa) there

  -- A router's route is set, where it leads out of a port that is there.
  route_as : (role : Role) (s : SystemState) (route : Route) → role ≡ Router → route.port < length s.attached.ports → slice_get w.systems place ≡ Some s
      → sets_route_as role w place s route
      ≡ writes (with_system place (with_routes (set_in route s.attached.routes) s) w) (Noted s.moment s.configuration.name (note.Route route.prefix))
  route_as role s route is leads there =
      ap (λ (r : Role). sets_route_as r w place s route) is
      ∙ (let leads_so : nat_lt route.port (length s.attached.ports) ≡ true = grind arith in
      ap (λ (test : Bool). if test then followed_by (comes w place (IsChanged (RouteIsSet route))) (tells_of s (note.Route route.prefix)) else nothing w) leads_so)
      ∙ told_is w place s (RouteIsSet route) (note.Route route.prefix) there

  pub route_is_set : (s : SystemState) (route : Route) → slice_get w.systems place ≡ Some s → s.configuration.role ≡ Router
      → route.port < length s.attached.ports
      → sets_route w place route
      ≡ writes (with_system place (with_routes (set_in route s.attached.routes) s) w) (Noted s.moment s.configuration.name (note.Route route.prefix))
  route_is_set s route there is leads = ap (sets_route_of w place route) there ∙ route_as s.configuration.role s route is leads there

  pub route_is_gone : (s : SystemState) (prefix : List ℕ) → slice_get w.systems place ≡ Some s → s.configuration.role ≡ Router
      → removes_route w place prefix
      ≡ writes (with_system place (with_routes (without prefix s.attached.routes) s) w)
      (Noted s.moment s.configuration.name (note.Unroute prefix (list_any (has_prefix prefix) s.attached.routes)))
  route_is_gone s prefix there is =
      ap (removes_route_of w place prefix) there
      ∙ ap (λ (role : Role). removes_route_as role w place s prefix) is
      ∙ told_is w place s (RouteIsGone prefix) (note.Unroute prefix (list_any (has_prefix prefix) s.attached.routes)) there

-- What isn't there.

-- by a subnetwork whose MTU is known there is no way to a port of nobody
nobody_moves : (w : LabelledNetwork) (place number subnet : ℕ) (snpa : List ℕ) (declared : Option Subnetwork) (mtu : Option ℕ) → slice_get w.systems place ≡ None
    → moves_port_on w place number subnet snpa declared mtu ≡ nothing w
nobody_moves w place number subnet snpa None mtu none = refl
nobody_moves w place number subnet snpa (Some declared) None none = refl
nobody_moves w place number subnet snpa (Some declared) (Some mtu) none = ap (moves_port_of w place number subnet snpa mtu declared) none

none_moves : (w : LabelledNetwork) (place number subnet : ℕ) (snpa : List ℕ) (s : SystemState) (declared : Option Subnetwork) (mtu : Option ℕ)
    → slice_get w.systems place ≡ Some s → slice_get s.attached.ports number ≡ None → moves_port_on w place number subnet snpa declared mtu ≡ nothing w
none_moves w place number subnet snpa s None mtu there none = refl
none_moves w place number subnet snpa s (Some declared) None there none = refl
none_moves w place number subnet snpa s (Some declared) (Some mtu) there none =
    ap (moves_port_of w place number subnet snpa mtu declared) there ∙ ap (moves_port_to w place number subnet snpa mtu declared s) none

-- a route astray is set at no system
route_astray : (role : Role) (w : LabelledNetwork) (place : ℕ) (s : SystemState) (route : Route) → length s.attached.ports ≤ route.port
    → sets_route_as role w place s route ≡ nothing w
route_astray Host w place s route astray = refl
route_astray Router w place s route astray =
    let leads_not : nat_lt route.port (length s.attached.ports) ≡ false = grind arith in
    ap (λ (test : Bool). if test then followed_by (comes w place (IsChanged (RouteIsSet route))) (tells_of s (note.Route route.prefix)) else nothing w) leads_not

module _ (w : LabelledNetwork) (place : ℕ) where
  pub no_port_moves_nowhere : (subnets : List Subnetwork) (number subnet : ℕ) (snpa : List ℕ) → slice_get subnets subnet ≡ None
      → moves_port subnets w place number subnet snpa ≡ nothing w
  no_port_moves_nowhere subnets number subnet snpa none =
      ap (λ (found : Option Subnetwork). moves_port_on w place number subnet snpa found (slice_get w.mtus subnet)) none

  pub no_port_of_nobody : (subnets : List Subnetwork) (number subnet : ℕ) (snpa : List ℕ) → slice_get w.systems place ≡ None
      → moves_port subnets w place number subnet snpa ≡ nothing w
  no_port_of_nobody subnets number subnet snpa none =
      nobody_moves w place number subnet snpa (slice_get subnets subnet) (slice_get w.mtus subnet) none

  pub no_port_moves : (subnets : List Subnetwork) (number subnet : ℕ) (snpa : List ℕ) (s : SystemState) → slice_get w.systems place ≡ Some s
      → slice_get s.attached.ports number ≡ None → moves_port subnets w place number subnet snpa ≡ nothing w
  no_port_moves subnets number subnet snpa s there none =
      none_moves w place number subnet snpa s (slice_get subnets subnet) (slice_get w.mtus subnet) there none

  pub no_route_of_hosts : (s : SystemState) (route : Route) → slice_get w.systems place ≡ Some s → s.configuration.role ≡ Host
      → sets_route w place route ≡ nothing w
  no_route_of_hosts s route there is = ap (sets_route_of w place route) there ∙ ap (λ (role : Role). sets_route_as role w place s route) is

  pub no_route_astray : (s : SystemState) (route : Route) → slice_get w.systems place ≡ Some s → length s.attached.ports ≤ route.port
      → sets_route w place route ≡ nothing w
  no_route_astray s route there astray = ap (sets_route_of w place route) there ∙ route_astray s.configuration.role w place s route astray

  pub no_route_goes_of_hosts : (s : SystemState) (prefix : List ℕ) → slice_get w.systems place ≡ Some s → s.configuration.role ≡ Host
      → removes_route w place prefix ≡ nothing w
  no_route_goes_of_hosts s prefix there is =
      ap (removes_route_of w place prefix) there ∙ ap (λ (role : Role). removes_route_as role w place s prefix) is

-- What each event that changes a network leaves as it was.

keeps_itself : (w : LabelledNetwork) → KeepsTraffic w w
keeps_itself w = record { clock = refl; units = refl; copies = refl; cursor = refl; systems = refl }

-- a system is another one, but not without what it is attached to
keeps_others : (w : LabelledNetwork) (place : ℕ) (s t : SystemState) → slice_get w.systems place ≡ Some s → unattached t ≡ unattached s
    → KeepsTraffic w (with_system place t w)
keeps_others w place s t there same = record {
  clock = refl;
  units = refl;
  copies = refl;
  cursor = refl;
  systems = map_set unattached w.systems place s t there same;
}

all_unattached : (subnet mtu : ℕ) (systems : List SystemState) → map unattached (map (with_resized subnet mtu) systems) ≡ map unattached systems
all_unattached subnet mtu [] = refl
all_unattached subnet mtu (s ∷ systems) = ap (λ (rest : List SystemState). unattached s ∷ rest) (all_unattached subnet mtu systems)

module _ (w : LabelledNetwork) where
  -- the world after a part of a move is as before in that
  abbrev Keeps : Step → Type 0
  Keeps step = KeepsTraffic w step.world

  told_keeps : (place : ℕ) (s : SystemState) (change : Change) (told : Note) → slice_get w.systems place ≡ Some s
      → Keeps (followed_by (comes w place (IsChanged change)) (tells_of s told))
  told_keeps place s change told there =
      subst Keeps (sym (told_is w place s change told there)) (keeps_others w place s (as_changed change s) there refl)

  resizing_keeps : (subnet mtu : ℕ) (found : Option Subnetwork) → Keeps (resizes_on w subnet mtu found)
  resizing_keeps subnet mtu None = keeps_itself w
  resizing_keeps subnet mtu (Some declared) =
      subst Keeps (sym (frames_are subnet mtu w declared))
      (record { clock = refl; units = refl; copies = refl; cursor = refl; systems = all_unattached subnet mtu w.systems })

  module _ (place number subnet : ℕ) (snpa : List ℕ) where
    port_to_keeps : (mtu : ℕ) (declared : Subnetwork) (s : SystemState) → slice_get w.systems place ≡ Some s → (found : Option PortConfig)
        → Keeps (moves_port_to w place number subnet snpa mtu declared s found)
    port_to_keeps mtu declared s there None = keeps_itself w
    port_to_keeps mtu declared s there (Some port) =
        told_keeps place s (PortIsAt number (moved port subnet mtu snpa)) (note.Port number declared.name snpa) there

    port_of_keeps : (mtu : ℕ) (declared : Subnetwork) (found : Option SystemState) → slice_get w.systems place ≡ found
        → Keeps (moves_port_of w place number subnet snpa mtu declared found)
    port_of_keeps mtu declared None e = keeps_itself w
    port_of_keeps mtu declared (Some s) e = port_to_keeps mtu declared s e (slice_get s.attached.ports number)

    moving_keeps : (declared : Option Subnetwork) (mtu : Option ℕ) → Keeps (moves_port_on w place number subnet snpa declared mtu)
    moving_keeps None mtu = keeps_itself w
    moving_keeps (Some declared) None = keeps_itself w
    moving_keeps (Some declared) (Some mtu) = port_of_keeps mtu declared (slice_get w.systems place) refl

  route_as_keeps : (role : Role) (place : ℕ) (s : SystemState) (route : Route) → slice_get w.systems place ≡ Some s → Keeps (sets_route_as role w place s route)
  route_as_keeps Host place s route there = keeps_itself w
  route_as_keeps Router place s route there =
      one_of Keeps (nat_lt route.port (length s.attached.ports))
      (followed_by (comes w place (IsChanged (RouteIsSet route))) (tells_of s (note.Route route.prefix))) (nothing w)
      (told_keeps place s (RouteIsSet route) (note.Route route.prefix) there) (keeps_itself w)

  setting_keeps : (place : ℕ) (route : Route) (found : Option SystemState) → slice_get w.systems place ≡ found → Keeps (sets_route_of w place route found)
  setting_keeps place route None e = keeps_itself w
  setting_keeps place route (Some s) e = route_as_keeps s.configuration.role place s route e

  unroute_as_keeps : (role : Role) (place : ℕ) (s : SystemState) (prefix : List ℕ) → slice_get w.systems place ≡ Some s
      → Keeps (removes_route_as role w place s prefix)
  unroute_as_keeps Host place s prefix there = keeps_itself w
  unroute_as_keeps Router place s prefix there =
      told_keeps place s (RouteIsGone prefix) (note.Unroute prefix (list_any (has_prefix prefix) s.attached.routes)) there

  removing_keeps : (place : ℕ) (prefix : List ℕ) (found : Option SystemState) → slice_get w.systems place ≡ found → Keeps (removes_route_of w place prefix found)
  removing_keeps place prefix None e = keeps_itself w
  removing_keeps place prefix (Some s) e = unroute_as_keeps s.configuration.role place s prefix e

  pub changes_keep : (subnets : List Subnetwork) (limits : Limits) (changing : Event) → ChangesNetwork changing
      → Keeps (event_happens subnets limits w (Some changing))
  changes_keep subnets limits (event.Mtu subnet mtu) changes = resizing_keeps subnet mtu (slice_get subnets subnet)
  changes_keep subnets limits (event.Route system route) changes = setting_keeps system route (slice_get w.systems system) refl
  changes_keep subnets limits (event.Unroute system prefix) changes = removing_keeps system prefix (slice_get w.systems system) refl
  changes_keep subnets limits (event.Port system number subnet snpa) changes =
      moving_keeps system number subnet snpa (slice_get subnets subnet) (slice_get w.mtus subnet)
  changes_keep subnets limits _ changes = absurd changes

-- A restart.

module _ (w : LabelledNetwork) (place : ℕ) where
  restarted_at : (found : Option SystemState) → slice_get w.systems place ≡ found → KeepsAttachments w (comes_to w place IsRestarted found).world
  restarted_at None e = record { mtus = refl; systems = refl }
  restarted_at (Some s) e = record {
    mtus = refl;
    systems = map_set (λ (t : SystemState). t.attached) w.systems place s (restarted s) e refl;
  }

  pub restart_keeps : KeepsAttachments w (comes w place IsRestarted).world
  restart_keeps = restarted_at (slice_get w.systems place) refl
