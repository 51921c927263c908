-- How events change what a system is attached to.
use Rattle.std.specs.Prelude.{ℕ, ◌<◌, List, length, slice_get, slice_set, Option, None, Some}
use Rattle.clnp_plan.specs.Nsap.Address.{IsAddress}
use Rattle.clnp_plan.specs.Configuration.{IsAddressedRoute, IsPort, IsWithin}
use Rattle.clnp_plan.specs.Forwarding.Setting.{set_in, without}
use Rattle.clnp_plan.specs.SystemTables.declared.forwarding.route.Route.{Route}
use Rattle.clnp_plan.specs.declared.config.PortConfig.{PortConfig}
use Rattle.clnp_machine.specs.Attachment.{Attachment}

-- A port is elsewhere from now on, or takes frames of so many octets; a route is set for its prefix, or that of a prefix is gone.
pub data Change : Type 0 where
  PortIsAt : (number : ℕ) (port : PortConfig) → Change
  PortTakes : (number mtu : ℕ) → Change
  RouteIsSet : (route : Route) → Change
  RouteIsGone : (prefix : List ℕ) → Change

abbrev pub with_mtu : (mtu : ℕ) → PortConfig → PortConfig
with_mtu mtu port = record port { mtu = mtu }

-- the ports, where that of a number, if it is there, takes frames of so many octets
abbrev pub ports_taking : (number mtu : ℕ) → Option PortConfig → List PortConfig → List PortConfig
ports_taking number mtu None ports = ports
ports_taking number mtu (Some port) ports = slice_set ports number (with_mtu mtu port)

abbrev pub changed : Change → Attachment → Attachment
changed (PortIsAt number port) a = record a { ports = slice_set a.ports number port }
changed (PortTakes number mtu) a = record a { ports = ports_taking number mtu (slice_get a.ports number) a.ports }
changed (RouteIsSet route) a = record a { routes = set_in route a.routes }
changed (RouteIsGone prefix) a = record a { routes = without prefix a.routes }

-- what each change has to bring with it
abbrev pub ChangesFairly : Attachment → Change → Type 0
ChangesFairly a (PortIsAt number port) = IsPort port × IsAddress port.snpa
ChangesFairly a (PortTakes number mtu) = IsWithin 512 65535 mtu
ChangesFairly a (RouteIsSet route) = IsAddressedRoute route × (route.port < length a.ports)
ChangesFairly a (RouteIsGone prefix) = Unit {0}
