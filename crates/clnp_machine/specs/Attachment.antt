-- What a system is attached to: its ports by their numbers, and where a router sends what is for no neighbour of its own.
use Rattle.std.specs.Prelude.{◌<◌, List, length}
use Rattle.std.specs.List.{AllByRecursion}
use Rattle.clnp_plan.specs.Nsap.Address.{IsAddress}
use Rattle.clnp_plan.specs.Configuration.{IsAddressedRoute, IsPort, SystemConfiguration}
use Rattle.clnp_plan.specs.Forwarding.Distinct as prefixes
use Rattle.clnp_plan.specs.SystemTables.declared.forwarding.route.Route.{Route}
use Rattle.clnp_plan.specs.declared.config.PortConfig.{PortConfig}

pub record Attachment : Type 0 where
  pub ports : List PortConfig
  pub routes : List Route

-- at the start
abbrev pub as_declared : SystemConfiguration → Attachment
as_declared system = record { ports = system.ports; routes = system.routes }

-- Ports take frames that are long enough, cost lifetime and are at addresses; routes lead out of ports that are there to systems
-- at addresses, and no two of them have one prefix.
pub record IsAttached (a : Attachment) : Type 0 where
  pub ports : AllByRecursion IsPort a.ports
  pub addressed : AllByRecursion (λ (port : PortConfig). IsAddress port.snpa) a.ports
  pub next : AllByRecursion IsAddressedRoute a.routes
  pub lead : AllByRecursion (λ (route : Route). route.port < length a.ports) a.routes
  pub distinct : prefixes.AreDistinct a.routes
