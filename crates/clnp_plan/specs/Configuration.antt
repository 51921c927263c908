-- What a scenario says of one system, and how long things last in a network.
use Rattle.std.specs.Prelude.{◌≡◌, ◌≢◌, ℕ, ◌+◌, ◌*◌, ◌<◌, ◌≤◌, List, [], length, All, AllPairs}
use Rattle.std.specs.List.{AllByRecursion}
use Rattle.pdus.specs.Nsap.Address.{IsAddress}
use Rattle.system_tables.specs.declared.forwarding.route.Route.{Route}
use Rattle.system_tables.specs.Forwarding.Distinct as prefixes
use Rattle.clnp_plan.specs.declared.config.Limits.{Limits}
use Rattle.clnp_plan.specs.declared.config.Role.{Role}
use Rattle.clnp_plan.specs.declared.config.Role.TheVariants.{Host, Router}
use Rattle.clnp_plan.specs.declared.config.PortConfig.{PortConfig}
use Rattle.clnp_plan.specs.declared.config.Settings.{Settings}

pub record SystemConfiguration : Type 0 where
  pub name : List ℕ
  pub role : Role
  -- the first is the system's title
  pub addresses : List (List ℕ)
  pub ports : List PortConfig
  -- where a router sends what is for no neighbour of its own
  pub routes : List Route
  pub settings : Settings

-- a number within its range
pub record IsWithin (low high n : ℕ) : Type 0 where
  pub least : low ≤ n
  pub most : n ≤ high

-- A host has 1 to 8 addresses, a router has one.
abbrev pub HasItsAddresses : Role → List (List ℕ) → Type 0
HasItsAddresses Host addresses = IsWithin 1 8 (length addresses)
HasItsAddresses Router addresses = length addresses ≡ 1

-- A host has one port, a router has 1 to 8.
abbrev pub HasItsPorts : Role → List PortConfig → Type 0
HasItsPorts Host ports = length ports ≡ 1
HasItsPorts Router ports = IsWithin 1 8 (length ports)

-- A host has no routes, a router has at most 256.
abbrev pub HasItsRoutes : Role → List Route → Type 0
HasItsRoutes Host routes = routes ≡ []
HasItsRoutes Router routes = length routes ≤ 256

pub record IsPort (port : PortConfig) : Type 0 where
  pub transit : IsWithin 1 255 port.transit
  pub mtu : IsWithin 512 65535 port.mtu

pub record AreSettings (settings : Settings) : Type 0 where
  pub hello : IsWithin 0 600 settings.hello
  pub suggest : IsWithin 0 32767 settings.suggest
  pub rhold : IsWithin 0 65535 settings.rhold
  pub slots : IsWithin 1 1024 settings.slots
  pub segments : IsWithin 1 16384 settings.segments
  pub budget : IsWithin 512 4194304 settings.budget
  pub neighbours : IsWithin 1 1024 settings.neighbours
  pub routers : IsWithin 1 64 settings.routers
  pub redirects : IsWithin 1 1024 settings.redirects
  pub life : IsWithin 1 255 settings.life

-- the addresses of a route's next system are addresses
pub record IsAddressedRoute (route : Route) : Type 0 where
  pub snpa : IsAddress route.snpa
  pub title : IsAddress route.title

-- so are all that a configuration has: a system's own, those of its ports, and those of the next systems on its routes
pub record IsAddressed (system : SystemConfiguration) : Type 0 where
  pub own : All IsAddress system.addresses
  pub ports : AllByRecursion (λ (port : PortConfig). IsAddress port.snpa) system.ports
  pub routes : AllByRecursion IsAddressedRoute system.routes

-- no two of some addresses are the same
abbrev pub AreDistinct : List (List ℕ) → Type 0
AreDistinct addresses = AllPairs (λ a b. a ≢ b) addresses

-- what each system is
pub record IsSystem (system : SystemConfiguration) : Type 0 where
  pub addresses : HasItsAddresses system.role system.addresses
  pub distinct : AreDistinct system.addresses
  pub ports : HasItsPorts system.role system.ports
  pub each_port : AllByRecursion IsPort system.ports
  pub routes : HasItsRoutes system.role system.routes
  pub distinct_routes : prefixes.AreDistinct system.routes
  -- a route leads out of one of the ports
  pub each_route : AllByRecursion (λ (route : Route). route.port < length system.ports) system.routes
  pub settings : AreSettings system.settings

-- An identifier rests until no segment of the unit that had it can be on its way or in a buffer (ISO 8473, section 6.8).
pub record AreLimits (limits : Limits) : Type 0 where
  pub age : IsWithin 1 4096 limits.age
  pub hold : IsWithin 1 255 limits.hold
  pub reuse : IsWithin 1 16384 limits.reuse
  -- how far apart the clocks of two systems may stand
  pub skew : IsWithin 0 4096 limits.skew
  pub rests : limits.age + limits.hold + 2 * limits.skew ≤ limits.reuse
