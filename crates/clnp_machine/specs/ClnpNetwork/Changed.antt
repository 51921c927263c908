-- What events leave that change a network.
use Rattle.std.specs.Prelude.{◌≡◌, ℕ, ◌==◌, if◌then◌else◌, List, [], map, slice_set}
use Rattle.clnp_plan.specs.SystemTables.declared.forwarding.route.Route.{Route}
use Rattle.clnp_plan.specs.declared.config.PortConfig.{PortConfig}
use Rattle.clnp_machine.specs.Change.{with_mtu}
use Rattle.clnp_machine.specs.System.{SystemState}
use Rattle.clnp_plan.specs.declared.scenario_plan.event.Event.{Event}
use Rattle.clnp_plan.specs.declared.scenario_plan.event.Event.TheVariants as event
use Rattle.clnp_machine.specs.ClnpNetwork.LabelledNetwork.{LabelledNetwork, moved}

-- a port takes frames of so many octets where it is on a subnetwork, and is as it was where it is on another one
abbrev pub resized : (subnet mtu : ℕ) → PortConfig → PortConfig
resized subnet mtu port = if port.subnet == subnet then with_mtu mtu port else port

-- so does each port of a system; all else of it is as it was
abbrev pub with_resized : (subnet mtu : ℕ) → SystemState → SystemState
with_resized subnet mtu s = record s { attached = record s.attached { ports = map (resized subnet mtu) s.attached.ports } }

-- a subnetwork takes frames of so many octets, and so does each port on it
abbrev pub with_frames : (subnet mtu : ℕ) → LabelledNetwork → LabelledNetwork
with_frames subnet mtu w =
    record w { mtus = slice_set w.mtus subnet mtu; systems = map (with_resized subnet mtu) w.systems }

-- the system at a place is another one
abbrev pub with_system : (place : ℕ) → SystemState → LabelledNetwork → LabelledNetwork
with_system place s w = record w { systems = slice_set w.systems place s }

-- a port of a system is at an address on a subnetwork, and takes frames of so many octets; the next hello of the system is due
abbrev pub with_moved : (number subnet mtu : ℕ) → (snpa : List ℕ) → PortConfig → SystemState → SystemState
with_moved number subnet mtu snpa port s =
    record s {
      attached = record s.attached { ports = slice_set s.attached.ports number (moved port subnet mtu snpa) };
      next_hello = s.moment;
    }

-- a system has these routes
abbrev pub with_routes : List Route → SystemState → SystemState
with_routes routes s = record s { attached = record s.attached { routes = routes } }

-- a system but for its ports, its routes, and when its next hello is due
abbrev pub unattached : SystemState → SystemState
unattached s = record s { attached = record { ports = []; routes = [] }; next_hello = 0 }

-- The clock, all units, copies and how many of them are settled are as before; and so is each system, what it heard, keeps and waits
-- for, but for its ports, its routes, and when its next hello is due.
pub record KeepsTraffic (before after : LabelledNetwork) : Type 0 where
  pub clock : after.clock ≡ before.clock
  pub units : after.units ≡ before.units
  pub copies : after.copies ≡ before.copies
  pub cursor : after.cursor ≡ before.cursor
  pub systems : map unattached after.systems ≡ map unattached before.systems

-- the ports and routes of each system, and what each subnetwork takes, are as before
pub record KeepsAttachments (before after : LabelledNetwork) : Type 0 where
  pub mtus : after.mtus ≡ before.mtus
  pub systems : map (λ (s : SystemState). s.attached) after.systems ≡ map (λ (s : SystemState). s.attached) before.systems

-- an event changes a network
abbrev pub ChangesNetwork : Event → Type 0
ChangesNetwork (event.Mtu subnet mtu) = Unit {0}
ChangesNetwork (event.Route system route) = Unit {0}
ChangesNetwork (event.Unroute system prefix) = Unit {0}
ChangesNetwork (event.Port system number subnet snpa) = Unit {0}
ChangesNetwork _ = ⊥
