-- What the parts of a step keep of the worlds, and what their lines are.
use Rattle.clnp_machine.proofs.ClnpBase.Lists.{AllByRecursion-append}
use Rattle.std.proofs.Common.{◌≡◌, ℕ, zero, suc, ◌+◌, ◌<◌, List, [], ◌∷◌, ◌++◌, length, refl, inl, inr, Bool, true, false, arith}
use Rattle.std.specs.Prelude.{◌==◌, if◌then◌else◌, nat_lt, Option, None, Some, slice_get, slice_set}
use Rattle.std.proofs.lemmas.Bool.{cases_Bool}
use Rattle.clnp_machine.specs.Pdus.declared.nsap.target.Target.{Target}
use Rattle.clnp_machine.specs.ClnpPlan.Journal.{Line, Noted, Void, Late, Injected, Resized, Received, Lost, ForNobody}
use Rattle.clnp_machine.specs.ClnpPlan.declared.config.Limits.{Limits}
use Rattle.clnp_machine.specs.ClnpPlan.declared.config.Role.{Role}
use Rattle.clnp_machine.specs.ClnpPlan.declared.config.Role.TheVariants.{Host, Router}
use Rattle.clnp_machine.specs.ClnpPlan.declared.config.PortConfig.{PortConfig}
use Rattle.clnp_machine.specs.ClnpPlan.declared.note.Note.{Note}
use Rattle.clnp_machine.specs.ClnpPlan.declared.note.Note.TheVariants as note
use Rattle.clnp_machine.specs.SystemTables.declared.forwarding.route.Route.{Route}
use Rattle.clnp_machine.specs.Forwarding.Distinct.{has_prefix}
use Rattle.clnp_machine.specs.ScenarioPlan.Plan.{Subnetwork}
use Rattle.clnp_machine.specs.Change.{Change, PortIsAt, PortTakes, RouteIsGone, RouteIsSet}
use Rattle.clnp_machine.specs.System.{SystemState, Input, IsChanged, Output}
use Rattle.clnp_machine.specs.Step.{step}
use Rattle.clnp_machine.specs.ClnpNetwork.LabelledNetwork.{LabelledNetwork, Copy, Numbered, Step, nothing, writes, followed_by, put_out, put_all_out, takes_effect, comes, comes_to, copy_numbered, asks_role, asks_system, asks, first_port, frame_to, hand_to, is_late, give_to, give, give_each, for_nobody, settle_for, is_void, is_addressee, deliver_to, deliver_at, deliver, copy_from_outside, injects_on, injects, tells_of, ports_of, moved, moves_port_to, moves_port_of, moves_port_on, moves_port, sets_route_as, sets_route_of, sets_route, removes_route_as, removes_route_of, removes_route, resizes_port_of, resizes_port, resizes_ports, resizes_at, resizes_each, resizes_on, resizes}
use Rattle.std.specs.List.{AllByRecursion, list_any, range_with_len}
use Rattle.clnp_machine.proofs.ClnpBase.Choices.{one_of}

-- K holds of the world after a step, and Q of each of its lines
pub record Keeps (K : LabelledNetwork → Type 0) (Q : Line → Type 0) (taken : Step) : Type 0 where
  pub world : K taken.world
  pub lines : AllByRecursion Q taken.lines

pub keeps-map : (K J : LabelledNetwork → Type 0) (Q : Line → Type 0) (taken : Step) → ((w : LabelledNetwork) → K w → J w) → Keeps K Q taken → Keeps J Q taken
keeps-map K J Q taken f h = record { world = f taken.world h.world; lines = h.lines }

-- the lines of copies that are given, and of those that aren't, are fine
pub record GivingIsFine (Q : Line → Type 0) : Type 0 where
  pub void : (now : ℕ) (name : List ℕ) (copy : ℕ) → Q (Void now name copy)
  pub late : (now : ℕ) (name : List ℕ) (copy : ℕ) → Q (Late now name copy)
  pub received : (now : ℕ) (name : List ℕ) (copy port : ℕ) → Q (Received now name copy port)
  pub lost : (now copy : ℕ) → Q (Lost now copy)
  pub nobody : (now copy : ℕ) → Q (ForNobody now copy)

-- the lines of changes are fine
pub record ChangingIsFine (Q : Line → Type 0) : Type 0 where
  pub port : (now : ℕ) (name : List ℕ) (number : ℕ) (subnet snpa : List ℕ) → Q (Noted now name (note.Port number subnet snpa))
  pub route : (now : ℕ) (name prefix : List ℕ) → Q (Noted now name (note.Route prefix))
  pub unroute : (now : ℕ) (name prefix : List ℕ) (there : Bool) → Q (Noted now name (note.Unroute prefix there))
  pub resized : (now : ℕ) (subnet : List ℕ) (mtu : ℕ) → Q (Resized now subnet mtu)

-- a world with one more copy, of octets from outside
abbrev pub with_outside : LabelledNetwork → (subnet : ℕ) (sender : List ℕ) → Target → (octets : List ℕ) → LabelledNetwork
with_outside w subnet sender target octets =
    record w { copies = w.copies ++ copy_from_outside (length w.copies + 1) w.clock subnet sender target octets ∷ [] }

-- the lines of frames from outside are fine
abbrev pub InjectedIsFine : (Line → Type 0) → Type 0
InjectedIsFine Q = (now copy : ℕ) (subnet sender : List ℕ) (target : Target) → Q (Injected now copy subnet sender target)

-- a copy with a number is there at a place
pub copy_there : (number : ℕ) (copies : List Copy) (copy : Copy) → copy_numbered number copies ≡ Some copy → (at : ℕ) × (slice_get copies at ≡ Some copy)
copy_there zero copies copy e = absurd (cc)
copy_there (suc at) copies copy e = (at, e)

module _ (K : LabelledNetwork → Type 0) (Q : Line → Type 0) where
  pub keeps-nothing : (w : LabelledNetwork) → K w → Keeps K Q (nothing w)
  keeps-nothing w h = record { world = h; lines = tt }

  -- of the world between the parts J holds
  pub keeps-followed_by : (J : LabelledNetwork → Type 0) (first : Step) (next : LabelledNetwork → Step) → Keeps J Q first → ((v : LabelledNetwork) → J v → Keeps K Q (next v))
      → Keeps K Q (followed_by first next)
  keeps-followed_by J first next h k = record {
    world = (k first.world h.world).world;
    lines = AllByRecursion-append Q first.lines (next first.world).lines h.lines (k first.world h.world).lines;
  }

  pub keeps-put_all_out : (system : SystemState) (outputs : List Output)
      → AllByRecursion (λ output. (v : LabelledNetwork) → K v → Keeps K Q (put_out system v output)) outputs → (w : LabelledNetwork) → K w
      → Keeps K Q (put_all_out system w outputs)
  keeps-put_all_out system [] h w k = keeps-nothing w k
  keeps-put_all_out system (output ∷ outputs) h w k =
      keeps-followed_by K (put_out system w output) (λ v. put_all_out system v outputs) (h.0 w k) (keeps-put_all_out system outputs h.1)

  pub keeps-comes_to : (w : LabelledNetwork) (place : ℕ) (input : Input) (found : Option SystemState) → (found ≡ None → K w)
      → ((s : SystemState) → found ≡ Some s → Keeps K Q (takes_effect w place (step s input))) → Keeps K Q (comes_to w place input found)
  keeps-comes_to w place input None h k = keeps-nothing w (h refl)
  keeps-comes_to w place input (Some s) h k = k s refl

  -- nobody asks a router
  keeps-asks_role : (role : Role) (w : LabelledNetwork) (place : ℕ) (asked : Input) → K w → Keeps K Q (comes w place asked) → Keeps K Q (asks_role role w place asked)
  keeps-asks_role Host w place asked k h = h
  keeps-asks_role Router w place asked k h = keeps-nothing w k

  keeps-asks_system : (w : LabelledNetwork) (place : ℕ) (asked : Input) (found : Option SystemState) → K w → Keeps K Q (comes w place asked)
      → Keeps K Q (asks_system w place asked found)
  keeps-asks_system w place asked None k h = keeps-nothing w k
  keeps-asks_system w place asked (Some system) k h = keeps-asks_role system.configuration.role w place asked k h

  pub keeps-asks : (w : LabelledNetwork) (place : ℕ) (asked : Input) → K w → Keeps K Q (comes w place asked) → Keeps K Q (asks w place asked)
  keeps-asks w place asked k h = keeps-asks_system w place asked (slice_get w.systems place) k h

  module _ (w : LabelledNetwork) (subnet : ℕ) (sender : List ℕ) (target : Target) (octets : List ℕ) (k : K w) (more : K (with_outside w subnet sender target octets))
      (fine : InjectedIsFine Q) where
    keeps-injects_on : (found : Option Subnetwork) → Keeps K Q (injects_on w subnet found sender target octets)
    keeps-injects_on None = keeps-nothing w k
    keeps-injects_on (Some declared) = record { world = more; lines = (fine w.clock (length w.copies + 1) declared.name sender target, tt) }

    pub keeps-injects : (subnets : List Subnetwork) → Keeps K Q (injects subnets w subnet sender target octets)
    keeps-injects subnets = keeps-injects_on (slice_get subnets subnet)

  module _ (fine : GivingIsFine Q) (limits : Limits) (given : Numbered) where
    -- the system takes in the copy that is given to it
    abbrev Takes : LabelledNetwork → ℕ → Type 0
    Takes w place =
        (s : SystemState) → slice_get w.systems place ≡ Some s → is_late limits w given.copy ≡ false
        → Keeps K Q (takes_effect w place (step s (frame_to s given.copy)))

    keeps-late : (w : LabelledNetwork) (place : ℕ) (s : SystemState) (late : Bool) → K w → (late ≡ false → Keeps K Q (takes_effect w place (step s (frame_to s given.copy))))
        → Keeps K Q (if late then writes w (Late s.moment s.configuration.name given.number) else hand_to given w place s)
    keeps-late w place s true h k = record { world = h; lines = (fine.late s.moment s.configuration.name given.number, tt) }
    keeps-late w place s false h k =
        let port = first_port given.copy s.configuration.role s.attached.ports in
        record { world = (k refl).world; lines = (fine.received s.moment s.configuration.name given.number port, (k refl).lines) }

    keeps-give_to : (w : LabelledNetwork) (place : ℕ) (found : Option SystemState) → slice_get w.systems place ≡ found → K w → Takes w place
        → Keeps K Q (give_to limits given w place found)
    keeps-give_to w place None e h k = keeps-nothing w h
    keeps-give_to w place (Some s) e h k = keeps-late w place s (is_late limits w given.copy) h (k s e)

    pub keeps-give : (w : LabelledNetwork) (place : ℕ) → K w → Takes w place → Keeps K Q (give limits given w place)
    keeps-give w place h k = keeps-give_to w place (slice_get w.systems place) refl h k

    pub keeps-give_each : (places : List ℕ) → ((v : LabelledNetwork) (place : ℕ) → K v → Takes v place) → (w : LabelledNetwork) → K w → Keeps K Q (give_each limits given w places)
    keeps-give_each [] h w k = keeps-nothing w k
    keeps-give_each (place ∷ places) h w k =
        keeps-followed_by K (give limits given w place) (λ v. give_each limits given v places) (keeps-give w place k (h w place k)) (keeps-give_each places h)

    keeps-nobody : (now number : ℕ) (places : List ℕ) → AllByRecursion Q (for_nobody now number places)
    keeps-nobody now number [] = (fine.nobody now number, tt)
    keeps-nobody now number (place ∷ places) = tt

    pub keeps-settle_for : (w : LabelledNetwork) (places : List ℕ) → Keeps K Q (give_each limits given w places) → Keeps K Q (settle_for limits given w places)
    keeps-settle_for w places h = record {
      world = h.world;
      lines = AllByRecursion-append Q (for_nobody w.clock given.number places) (give_each limits given w places).lines
          (keeps-nobody w.clock given.number places) h.lines;
    }

  module _ (fine : GivingIsFine Q) (limits : Limits) where
    -- the system takes in the copy with a number, if there is one
    abbrev TakesNumbered : LabelledNetwork → ℕ → ℕ → Type 0
    TakesNumbered w number place =
        (copy : Copy) → copy_numbered number w.copies ≡ Some copy → Takes fine limits (record { number = number; copy = copy }) w place

    keeps-is_void : (w : LabelledNetwork) (number : ℕ) (system : SystemState) → K w → Keeps K Q (is_void w system number)
    keeps-is_void w number system h = record { world = h; lines = (fine.void system.moment system.configuration.name number, tt) }

    keeps-one_of : (given void : Step) (is_for : Bool) → Keeps K Q given → Keeps K Q void → Keeps K Q (if is_for then given else void)
    keeps-one_of given void is_for g v = one_of (Keeps K Q) is_for given void g v

    keeps-deliver_to : (w : LabelledNetwork) (number place : ℕ) (found : Option Copy) (system : SystemState) → K w
        → ((copy : Copy) → found ≡ Some copy → Takes fine limits (record { number = number; copy = copy }) w place)
        → Keeps K Q (deliver_to limits w number place found system)
    keeps-deliver_to w number place None system h k = keeps-is_void w number system h
    keeps-deliver_to w number place (Some copy) system h k =
        keeps-one_of (give limits (record { number = number; copy = copy }) w place) (is_void w system number) (is_addressee copy system)
        (keeps-give fine limits (record { number = number; copy = copy }) w place h (k copy refl)) (keeps-is_void w number system h)

    keeps-deliver_at : (w : LabelledNetwork) (number place : ℕ) (found : Option SystemState) → K w → TakesNumbered w number place
        → Keeps K Q (deliver_at limits w number place found)
    keeps-deliver_at w number place None h k = keeps-nothing w h
    keeps-deliver_at w number place (Some system) h k = keeps-deliver_to w number place (copy_numbered number w.copies) system h k

    pub keeps-deliver : (w : LabelledNetwork) (number place : ℕ) → K w → TakesNumbered w number place → Keeps K Q (deliver limits w number place)
    keeps-deliver w number place h k = keeps-deliver_at w number place (slice_get w.systems place) h k

  module _ (fine : ChangingIsFine Q) where
    -- a change of a system comes to it, and a line tells of it
    keeps-told : (w : LabelledNetwork) (place : ℕ) (system : SystemState) (change : Change) (told : Note)
        → ((now : ℕ) → Q (Noted now system.configuration.name told)) → Keeps K Q (comes w place (IsChanged change))
        → Keeps K Q (followed_by (comes w place (IsChanged change)) (tells_of system told))
    keeps-told w place system change told tells h =
        keeps-followed_by K (comes w place (IsChanged change)) (tells_of system told) h (λ v k. record { world = k; lines = (tells system.moment, tt) })

    module _ (w : LabelledNetwork) (place : ℕ) (k : K w) where
      module _ (number subnet : ℕ) (snpa : List ℕ) where
        -- the port that moves is one that is there, and takes frames as long as the subnetwork does
        abbrev Moves : Type 0
        Moves =
            (s : SystemState) (port : PortConfig) (mtu : ℕ) → slice_get w.systems place ≡ Some s → slice_get s.attached.ports number ≡ Some port
            → slice_get w.mtus subnet ≡ Some mtu → Keeps K Q (comes w place (IsChanged (PortIsAt number (moved port subnet mtu snpa))))

        keeps-moves_port_to : (mtu : ℕ) (declared : Subnetwork) (system : SystemState) (found : Option PortConfig)
            → ((port : PortConfig) → found ≡ Some port → Keeps K Q (comes w place (IsChanged (PortIsAt number (moved port subnet mtu snpa)))))
            → Keeps K Q (moves_port_to w place number subnet snpa mtu declared system found)
        keeps-moves_port_to mtu declared system None h = keeps-nothing w k
        keeps-moves_port_to mtu declared system (Some port) h =
            keeps-told w place system (PortIsAt number (moved port subnet mtu snpa)) (note.Port number declared.name snpa)
            (λ now. fine.port now system.configuration.name number declared.name snpa) (h port refl)

        keeps-moves_port_of : (mtu : ℕ) (declared : Subnetwork) (found : Option SystemState) → slice_get w.mtus subnet ≡ Some mtu
            → slice_get w.systems place ≡ found → Moves → Keeps K Q (moves_port_of w place number subnet snpa mtu declared found)
        keeps-moves_port_of mtu declared None at e h = keeps-nothing w k
        keeps-moves_port_of mtu declared (Some system) at e h =
            keeps-moves_port_to mtu declared system (slice_get system.attached.ports number) (λ port there. h system port mtu e there at)

        keeps-moves_port_on : (declared : Option Subnetwork) (mtu : Option ℕ) → slice_get w.mtus subnet ≡ mtu → Moves
            → Keeps K Q (moves_port_on w place number subnet snpa declared mtu)
        keeps-moves_port_on None mtu at h = keeps-nothing w k
        keeps-moves_port_on (Some declared) None at h = keeps-nothing w k
        keeps-moves_port_on (Some declared) (Some mtu) at h = keeps-moves_port_of mtu declared (slice_get w.systems place) at refl h

        pub keeps-moves_port : (subnets : List Subnetwork) → Moves → Keeps K Q (moves_port subnets w place number subnet snpa)
        keeps-moves_port subnets h = keeps-moves_port_on (slice_get subnets subnet) (slice_get w.mtus subnet) refl h

      module _ (route : Route) where
        -- the route leads out of a port that is there
        abbrev Sets : Type 0
        Sets = (s : SystemState) → slice_get w.systems place ≡ Some s → route.port < length s.attached.ports → Keeps K Q (comes w place (IsChanged (RouteIsSet route)))

        keeps-sets_route_as : (role : Role) (system : SystemState)
            → (route.port < length system.attached.ports → Keeps K Q (comes w place (IsChanged (RouteIsSet route))))
            → Keeps K Q (sets_route_as role w place system route)
        keeps-sets_route_as Host system h = keeps-nothing w k
        keeps-sets_route_as Router system h =
            elim (cases_Bool (nat_lt route.port (length system.attached.ports))) [
              | inl leads ↦
                  rw leads
                  (keeps-told w place system (RouteIsSet route) (note.Route route.prefix) (λ now. fine.route now system.configuration.name route.prefix)
                  (h (let within : route.port < length system.attached.ports = grind arith in within)))
              | inr astray ↦ rw astray (keeps-nothing w k)
            ]

        keeps-sets_route_of : (found : Option SystemState) → slice_get w.systems place ≡ found → Sets → Keeps K Q (sets_route_of w place route found)
        keeps-sets_route_of None e h = keeps-nothing w k
        keeps-sets_route_of (Some system) e h = keeps-sets_route_as system.configuration.role system (h system e)

        pub keeps-sets_route : Sets → Keeps K Q (sets_route w place route)
        keeps-sets_route h = keeps-sets_route_of (slice_get w.systems place) refl h

      module _ (prefix : List ℕ) (h : Keeps K Q (comes w place (IsChanged (RouteIsGone prefix)))) where
        keeps-removes_route_as : (role : Role) (system : SystemState) → Keeps K Q (removes_route_as role w place system prefix)
        keeps-removes_route_as Host system = keeps-nothing w k
        keeps-removes_route_as Router system =
            let there : Bool = list_any (has_prefix prefix) system.attached.routes in
            keeps-told w place system (RouteIsGone prefix) (note.Unroute prefix there)
            (λ now. fine.unroute now system.configuration.name prefix there) h

        keeps-removes_route_of : (found : Option SystemState) → Keeps K Q (removes_route_of w place prefix found)
        keeps-removes_route_of None = keeps-nothing w k
        keeps-removes_route_of (Some system) = keeps-removes_route_as system.configuration.role system

        pub keeps-removes_route : Keeps K Q (removes_route w place prefix)
        keeps-removes_route = keeps-removes_route_of (slice_get w.systems place)

    module _ (subnet mtu : ℕ) (takes : (v : LabelledNetwork) (place number : ℕ) → K v → Keeps K Q (comes v place (IsChanged (PortTakes number mtu)))) where
      keeps-resizes_port_of : (w : LabelledNetwork) (place number : ℕ) (found : Option PortConfig) → K w → Keeps K Q (resizes_port_of w place number subnet mtu found)
      keeps-resizes_port_of w place number None k = keeps-nothing w k
      keeps-resizes_port_of w place number (Some port) k =
          one_of (Keeps K Q) (port.subnet == subnet) (comes w place (IsChanged (PortTakes number mtu))) (nothing w) (takes w place number k) (keeps-nothing w k)

      keeps-resizes_ports : (place : ℕ) (numbers : List ℕ) (w : LabelledNetwork) → K w → Keeps K Q (resizes_ports w place subnet mtu numbers)
      keeps-resizes_ports place [] w k = keeps-nothing w k
      keeps-resizes_ports place (number ∷ numbers) w k =
          keeps-followed_by K (resizes_port w place number subnet mtu) (λ v. resizes_ports v place subnet mtu numbers)
          (keeps-resizes_port_of w place number (slice_get (ports_of (slice_get w.systems place)) number) k) (keeps-resizes_ports place numbers)

      keeps-resizes_each : (places : List ℕ) (w : LabelledNetwork) → K w → Keeps K Q (resizes_each w subnet mtu places)
      keeps-resizes_each [] w k = keeps-nothing w k
      keeps-resizes_each (place ∷ places) w k =
          keeps-followed_by K (resizes_at w place subnet mtu) (λ v. resizes_each v subnet mtu places)
          (keeps-resizes_ports place (range_with_len 0 (length (ports_of (slice_get w.systems place)))) w k) (keeps-resizes_each places)

      keeps-resizes_on : (w : LabelledNetwork) (found : Option Subnetwork) → K w → K (record w { mtus = slice_set w.mtus subnet mtu })
          → Keeps K Q (resizes_on w subnet mtu found)
      keeps-resizes_on w None k later = keeps-nothing w k
      keeps-resizes_on w (Some declared) k later =
          keeps-followed_by K (resizes_each (record w { mtus = slice_set w.mtus subnet mtu }) subnet mtu (range_with_len 0 (length w.systems)))
          (λ v. writes v (Resized v.clock declared.name mtu))
          (keeps-resizes_each (range_with_len 0 (length w.systems)) (record w { mtus = slice_set w.mtus subnet mtu }) later)
          (λ v k. record { world = k; lines = (fine.resized v.clock declared.name mtu, tt) })

      -- each port on the subnetwork takes it, of one system after another
      pub keeps-resizes : (subnets : List Subnetwork) (w : LabelledNetwork) → K w → K (record w { mtus = slice_set w.mtus subnet mtu })
          → Keeps K Q (resizes subnets w subnet mtu)
      keeps-resizes subnets w k later = keeps-resizes_on w (slice_get subnets subnet) k later
