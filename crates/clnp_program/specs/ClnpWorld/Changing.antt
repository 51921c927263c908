-- What an event changes of one system of the code.
use Rattle.std.specs.Prelude.{◌≡◌, ◌==◌, ◌≤◌, ◌<◌, ℕ, Bool, true, false, List, length, slice_get, Option, None, Some}
use Rattle.std.specs.List.{list_any}
use Rattle.clnp_machine.specs.Change.{Change, PortIsAt, PortTakes, RouteIsGone, RouteIsSet}
use Rattle.clnp_machine.specs.ClnpPlan.declared.config.PortConfig.{PortConfig}
use Rattle.clnp_machine.specs.ClnpPlan.declared.config.Role.TheVariants as role
use Rattle.clnp_machine.specs.Forwarding.Distinct.{has_prefix}
use Rattle.clnp_machine.specs.SystemTables.declared.forwarding.route.Route.{Route}
use Rattle.clnp_machine.specs.Step.{step}
use Rattle.clnp_machine.specs.System.{IsChanged, SystemState}
use Rattle.clnp_machine.specs.ClnpNetwork.LabelledNetwork.{moved}
use Rattle.clnp_systems.specs.Stands.{Stands}
use Rattle.clnp_systems.specs.declared.system.System.{System}

-- a system stands for the state that comes of another by a change
abbrev pub GoesTo : Change → SystemState → System → Type 0
GoesTo change s new = Stands new (step s (IsChanged change)).after

-- The port of a number is elsewhere from now on, or there is none of this number.
pub record IsMoved (s : SystemState) (new : System) (number subnet mtu : ℕ) (snpa : List ℕ) : Type 0 where
  pub port : PortConfig
  pub there : slice_get s.attached.ports number ≡ Some port
  pub goes : GoesTo (PortIsAt number (moved port subnet mtu snpa)) s new

pub record HasNoPort (s : SystemState) (new : System) (number : ℕ) : Type 0 where
  pub none : slice_get s.attached.ports number ≡ None
  pub stays : Stands new s

abbrev pub MovesPort : (answer : Bool) → (old new : System) → (number subnet mtu : ℕ) → (snpa : List ℕ) → Type 0
MovesPort true old new number subnet mtu snpa = (s : SystemState) → Stands old s → IsMoved s new number subnet mtu snpa
MovesPort false old new number subnet mtu snpa = (s : SystemState) → Stands old s → HasNoPort s new number

-- the port of a number takes frames of so many octets, where it is there and on the subnetwork
abbrev pub TakesWhereOn : (on : Bool) → SystemState → System → (number mtu : ℕ) → Type 0
TakesWhereOn true s new number mtu = GoesTo (PortTakes number mtu) s new
TakesWhereOn false s new number mtu = Stands new s

abbrev pub TakesAsPort : Option PortConfig → SystemState → System → (number subnet mtu : ℕ) → Type 0
TakesAsPort None s new number subnet mtu = Stands new s
TakesAsPort (Some port) s new number subnet mtu = TakesWhereOn (port.subnet == subnet) s new number mtu

abbrev pub TakesMtu : (old new : System) → (number subnet mtu : ℕ) → Type 0
TakesMtu old new number subnet mtu =
    (s : SystemState) → Stands old s → TakesAsPort (slice_get s.attached.ports number) s new number subnet mtu

-- The route of a prefix is set at a router that has the port out of which it leads; or the system is a host, or has no such port.
pub record IsRouted (s : SystemState) (new : System) (route : Route) : Type 0 where
  pub router : s.configuration.role ≡ role.Router
  pub leads : route.port < length s.attached.ports
  pub goes : GoesTo (RouteIsSet route) s new

pub record IsNotRouted (s : SystemState) (new : System) (route : Route) : Type 0 where
  pub leads_nowhere : s.configuration.role ≡ role.Router → length s.attached.ports ≤ route.port
  pub stays : Stands new s

abbrev pub SetsRoute : (answer : Bool) → (old new : System) → Route → Type 0
SetsRoute true old new route = (s : SystemState) → Stands old s → IsRouted s new route
SetsRoute false old new route = (s : SystemState) → Stands old s → IsNotRouted s new route

-- The route of a prefix is gone at a router, and it is told whether there was one; or the system is a host.
pub record IsUnrouted (s : SystemState) (new : System) (prefix : List ℕ) (there : Bool) : Type 0 where
  pub router : s.configuration.role ≡ role.Router
  pub was_there : there ≡ list_any (has_prefix prefix) s.attached.routes
  pub goes : GoesTo (RouteIsGone prefix) s new

pub record IsHost (s : SystemState) (new : System) : Type 0 where
  pub host : s.configuration.role ≡ role.Host
  pub stays : Stands new s

abbrev pub RemovesRoute : (answer : Option Bool) → (old new : System) → (prefix : List ℕ) → Type 0
RemovesRoute (Some there) old new prefix = (s : SystemState) → Stands old s → IsUnrouted s new prefix there
RemovesRoute None old new prefix = (s : SystemState) → Stands old s → IsHost s new
