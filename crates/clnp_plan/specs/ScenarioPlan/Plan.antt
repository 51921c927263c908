-- What a scenario text says: how long things last, the subnetworks and systems that it declares, and its events.
use Rattle.std.specs.Prelude.{◌≡◌, ◌≢◌, ℕ, true, false, ◌+◌, ◌/◌, ◌%◌, ◌==◌, ◌<◌, ◌≤◌, List, [], ◌∷◌, ◌++◌, map, filter, length, slice_get, replicate, sum, Some, option_map, AllPairs}
use Rattle.std.specs.List.{AllByRecursion, flat_map, range_with_len}
use Rattle.hex.specs.Hex.{IsBytes}
use Rattle.pdus.specs.Nsap.Address.{IsAddress}
use Rattle.pdus.specs.Nsap.Prefix.{IsPrefix}
use Rattle.pdus.specs.declared.nsap.target.Target.{Target}
use Rattle.pdus.specs.declared.nsap.target.Target.TheVariants.{System, EndSystems, Routers}
use Rattle.pdus.specs.ClnpOptions.Grammar.{FitsKind}
use Rattle.pdus.specs.ClnpOptions.Parameter.{parameters}
use Rattle.pdus.specs.ClnpOptions.Rules.{Accepts}
use Rattle.system_tables.specs.declared.forwarding.route.Route.{Route}
use Rattle.clnp_plan.specs.Asking.{IsFormedAsk}
use Rattle.clnp_plan.specs.Configuration.{AreDistinct, AreLimits, IsAddressed, IsAddressedRoute, IsSystem, IsWithin, SystemConfiguration}
use Rattle.clnp_plan.specs.declared.ask.Ask.{Ask}
use Rattle.clnp_plan.specs.declared.config.Limits.{Limits}
use Rattle.clnp_plan.specs.declared.config.PortConfig.{PortConfig}
use Rattle.clnp_plan.specs.declared.config.Role.TheVariants.{Host, Router}
use Rattle.clnp_plan.specs.ScenarioPlan.Standing.{EachMayCome, standing_of}
use Rattle.clnp_plan.specs.ScenarioPlan.Names.{is_name}
use Rattle.clnp_plan.specs.declared.scenario_plan.event.Body.{Body}
use Rattle.clnp_plan.specs.declared.scenario_plan.event.Body.TheVariants.{Hex, Pattern}
use Rattle.clnp_plan.specs.declared.scenario_plan.event.Event.{Event}
use Rattle.clnp_plan.specs.declared.scenario_plan.event.Event.TheVariants as event
use Rattle.clnp_plan.specs.declared.scenario_plan.event.Event.TheVariants.{Send, Deliver, Settle, Lose, Tick, Restart, Echo, Congest, Inject}
use Rattle.clnp_plan.specs.declared.scenario_plan.event.Move.{Move}
use Rattle.clnp_plan.specs.declared.scenario_plan.event.Move.TheVariants.{One, SettleOne, LoseOne, TickOne}
use Rattle.clnp_plan.specs.declared.scenario_plan.event.Move.TheVariants as move

pub record Subnetwork : Type 0 where
  pub name : List ℕ
  -- the most octets that a frame on it may have
  pub mtu : ℕ

-- systems and subnetworks are named by their places, from 0
pub record Plan : Type 0 where
  -- that of the texts that say it
  pub version : ℕ
  pub limits : Limits
  pub subnets : List Subnetwork
  pub systems : List SystemConfiguration
  pub events : List Event

-- The octets that are to be sent: those written, or so many of a pattern, which at place q are q + q / 256 + start modulo 256.
abbrev pub octets_of : Body → List ℕ
octets_of (Hex octets) = octets
octets_of (Pattern len start) = map (λ q. (q + q / 256 + start) % 256) (range_with_len 0 len)

-- the moves of the event at a place: `settle n`, `lose n`, `tick n` and `tick name n` are n moves, every other event is one
abbrev pub moves_of : ℕ → Event → List Move
moves_of place (Settle count) = replicate count SettleOne
moves_of place (Lose count) = replicate count LoseOne
moves_of place (Tick count) = replicate count TickOne
moves_of place (event.TickSystem system count) = replicate count (move.TickSystem system)
moves_of place (Send system from to body ask) = One place ∷ []
moves_of place (Deliver copy system) = One place ∷ []
moves_of place (Restart system) = One place ∷ []
moves_of place (Echo system from to body) = One place ∷ []
moves_of place (Congest system on) = One place ∷ []
moves_of place (Inject subnet from to octets) = One place ∷ []
moves_of place (event.Mtu subnet mtu) = One place ∷ []
moves_of place (event.Route system route) = One place ∷ []
moves_of place (event.Unroute system prefix) = One place ∷ []
moves_of place (event.Port system number subnet snpa) = One place ∷ []

-- the moves of events, the first of them at a place
abbrev pub moves_from : ℕ → List Event → List Move
moves_from place [] = []
moves_from place (event ∷ events) = moves_of place event ++ moves_from (place + 1) events

-- the ticks of an event
abbrev pub ticks_of : Event → ℕ
ticks_of (Tick count) = count
ticks_of (event.TickSystem system count) = count
ticks_of _ = 0

-- the copies that an event settles or loses
abbrev pub passed_by : Event → ℕ
passed_by (Settle count) = count
passed_by (Lose count) = count
passed_by _ = 0

-- an event that asks for a data unit asks for no option that an error report alone may have
abbrev pub AsksFairly : Event → Type 0
AsksFairly (Send system from to body ask) = FitsKind false (parameters ask.options)
AsksFairly _ = Unit {0}

-- An event that asks for a data unit asks for one that is formed as it should be; one that asks for an echo asks it between
-- addresses, with data that are octets.
abbrev pub AsksInForm : Event → Type 0
AsksInForm (Send system from to body ask) = IsFormedAsk from to ask
AsksInForm (Echo system from to body) = IsAddress from × IsAddress to × IsBytes (octets_of body)
AsksInForm _ = Unit {0}

-- each system that an event names is one of so many
abbrev pub IsPlaced : ℕ → Event → Type 0
IsPlaced systems (Send system from to body ask) = system < systems
IsPlaced systems (Deliver copy system) = system < systems
IsPlaced systems (Restart system) = system < systems
IsPlaced systems (Echo system from to body) = system < systems
IsPlaced systems (Congest system on) = system < systems
IsPlaced systems (event.Route system route) = system < systems
IsPlaced systems (event.Unroute system prefix) = system < systems
IsPlaced systems (event.TickSystem system count) = system < systems
IsPlaced systems (event.Port system number subnet snpa) = system < systems
IsPlaced systems _ = Unit {0}

-- a target on a subnetwork is an address there, or a group
abbrev pub IsTarget : Target → Type 0
IsTarget (System snpa) = IsAddress snpa
IsTarget EndSystems = Unit {0}
IsTarget Routers = Unit {0}

-- A frame from outside comes on one of so many subnetworks, from an address there to a target, and has 1 to 70,000 octets.
pub record IsInjection (subnets subnet : ℕ) (from : List ℕ) (to : Target) (octets : List ℕ) : Type 0 where
  pub placed : subnet < subnets
  pub sender : IsAddress from
  pub target : IsTarget to
  pub bytes : IsBytes octets
  pub many : IsWithin 1 70000 (length octets)

abbrev pub InjectsInForm : ℕ → Event → Type 0
InjectsInForm subnets (Inject subnet from to octets) = IsInjection subnets subnet from to octets
InjectsInForm subnets _ = Unit {0}

-- data that a line may say: octets, or at most 70,000 of a pattern that starts with an octet
abbrev pub IsSaidBody : Body → Type 0
IsSaidBody (Hex octets) = IsBytes octets
IsSaidBody (Pattern len start) = (len ≤ 70000) × (start < 256)

-- options that a line may say: at most 254 octets that the header of a data unit may have
pub record AreSaidOptions (octets : List ℕ) : Type 0 where
  pub bytes : IsBytes octets
  pub few : length octets ≤ 254
  pub accepted : Accepts false octets

-- how a line may say that a unit is to be sent
pub record IsSaidAsk (ask : Ask) : Type 0 where
  pub life : IsWithin 1 255 ask.life
  pub options : AreSaidOptions ask.options

-- the numbers, the data and the options of an event are those that a line may say
abbrev pub IsSaid : Event → Type 0
IsSaid (Send system from to body ask) = IsSaidBody body × IsSaidAsk ask
IsSaid (Echo system from to body) = IsSaidBody body
IsSaid (Deliver copy system) = IsWithin 1 1000000000 copy
IsSaid (Settle count) = IsWithin 1 100000 count
IsSaid (Lose count) = IsWithin 1 100000 count
IsSaid (Tick count) = IsWithin 1 65535 count
IsSaid (event.TickSystem system count) = IsWithin 1 65535 count
IsSaid (event.Mtu subnet mtu) = IsWithin 512 65535 mtu
IsSaid (event.Route system route) = IsWithin 0 7 route.port
IsSaid (event.Port system number subnet snpa) = IsWithin 0 7 number
IsSaid _ = Unit {0}

-- what a live node takes: it is asked to send or for an echo, or ticks pass
abbrev pub IsLive : Event → Type 0
IsLive (Send system from to body ask) = Unit {0}
IsLive (Echo system from to body) = Unit {0}
IsLive (Tick count) = Unit {0}
IsLive _ = ⊥

-- What a scenario is for a live node on a board of so many links: it has one system, with a port for each link, and no events
-- but those that a node takes.
pub record IsForBoard (links : ℕ) (plan : Plan) : Type 0 where
  pub one : length plan.systems ≡ 1
  pub ports : AllByRecursion (λ (system : SystemConfiguration). length system.ports ≡ links) plan.systems
  pub events : AllByRecursion IsLive plan.events

-- no frame comes from outside
abbrev pub InjectsNothing : Event → Type 0
InjectsNothing (Inject subnet from to octets) = ⊥
InjectsNothing _ = Unit {0}

-- all frames of a scenario are made by its own systems
abbrev pub IsClosed : Plan → Type 0
IsClosed plan = AllByRecursion InjectsNothing plan.events

-- the system of an event that asks for a data unit is a host
abbrev pub IsFromHost : List SystemConfiguration → Event → Type 0
IsFromHost systems (Send system from to body ask) = option_map (λ (host : SystemConfiguration). host.role) (slice_get systems system) ≡ Some Host
IsFromHost systems _ = Unit {0}

-- the system at a place is a router
abbrev pub IsRouterAt : List SystemConfiguration → (place : ℕ) → Type 0
IsRouterAt systems place = option_map (λ (router : SystemConfiguration). router.role) (slice_get systems place) ≡ Some Router

-- the system of an event that says whether one is congested, or what routes one has, is a router
abbrev pub IsOfRouter : List SystemConfiguration → Event → Type 0
IsOfRouter systems (Congest system on) = IsRouterAt systems system
IsOfRouter systems (event.Route system route) = IsRouterAt systems system
IsOfRouter systems (event.Unroute system prefix) = IsRouterAt systems system
IsOfRouter systems _ = Unit {0}

-- an event of the texts of each version
abbrev pub IsOfVersion1 : Event → Type 0
IsOfVersion1 (event.Mtu subnet mtu) = ⊥
IsOfVersion1 (event.Route system route) = ⊥
IsOfVersion1 (event.Unroute system prefix) = ⊥
IsOfVersion1 (event.TickSystem system count) = ⊥
IsOfVersion1 (event.Port system number subnet snpa) = ⊥
IsOfVersion1 _ = Unit {0}

-- the system at a place has a port of this number
abbrev pub HasNumber : List SystemConfiguration → (place number : ℕ) → Type 0
HasNumber systems place number = (system : SystemConfiguration) → slice_get systems place ≡ Some system
    → number < length system.ports

-- A route that is set leads out of one of the router's ports to a system at addresses.
pub record IsSetRoute (systems : List SystemConfiguration) (place : ℕ) (route : Route) : Type 0 where
  pub prefix : IsPrefix route.prefix
  pub next : IsAddressedRoute route
  pub there : HasNumber systems place route.port

-- A port that is put elsewhere is one of the system's, and comes to an address on a subnetwork that is there.
pub record IsMovedPort (subnets : ℕ) (systems : List SystemConfiguration) (place number subnet : ℕ) (snpa : List ℕ) : Type 0 where
  pub there : HasNumber systems place number
  pub placed : subnet < subnets
  pub address : IsAddress snpa

-- What an event changes is there, among so many subnetworks and these systems: ports and routes change, but not how many ports a
-- system has.
abbrev pub ChangesInForm : (subnets : ℕ) → List SystemConfiguration → Event → Type 0
ChangesInForm subnets systems (event.Mtu subnet mtu) = subnet < subnets
ChangesInForm subnets systems (event.Route system route) = IsSetRoute systems system route
ChangesInForm subnets systems (event.Unroute system prefix) = IsPrefix prefix
ChangesInForm subnets systems (event.Port system number subnet snpa) = IsMovedPort subnets systems system number subnet snpa
ChangesInForm subnets systems _ = Unit {0}

-- the subnetwork of a port is there, and its MTU is the port's
abbrev pub IsOn : List Subnetwork → PortConfig → Type 0
IsOn subnets port = option_map (λ (subnet : Subnetwork). subnet.mtu) (slice_get subnets port.subnet) ≡ Some port.mtu

-- no two of some ports are on one subnetwork
abbrev pub AreOnDifferent : List PortConfig → Type 0
AreOnDifferent ports = AllPairs (λ a b. a ≢ b) (map (λ (port : PortConfig). port.subnet) ports)

-- the addresses of a system's ports on a subnetwork
abbrev pub snpas_of : ℕ → SystemConfiguration → List (List ℕ)
snpas_of subnet system = map (λ port. port.snpa) (filter (λ port. port.subnet == subnet) system.ports)

-- What each scenario is that the reader accepts.
pub record IsFit (plan : Plan) : Type 0 where
  pub version : IsWithin 1 2 plan.version
  pub limits : AreLimits plan.limits
  -- in version 1 all clocks tick together
  pub together : plan.version ≡ 1 → plan.limits.skew ≡ 0
  pub systems : AllByRecursion IsSystem plan.systems
  pub named_subnets : AllByRecursion (λ (subnet : Subnetwork). is_name subnet.name ≡ true) plan.subnets
  pub named_systems : AllByRecursion (λ (system : SystemConfiguration). is_name system.name ≡ true) plan.systems
  -- a name belongs to one subnetwork, and to one system
  pub subnet_names : AreDistinct (map (λ (subnet : Subnetwork). subnet.name) plan.subnets)
  pub system_names : AreDistinct (map (λ (system : SystemConfiguration). system.name) plan.systems)
  pub few_subnets : length plan.subnets ≤ 64
  pub few_systems : length plan.systems ≤ 64
  pub mtus : AllByRecursion (λ (subnet : Subnetwork). IsWithin 512 65535 subnet.mtu) plan.subnets
  -- an address of a port belongs to one port of its subnetwork
  pub snpas : (subnet : ℕ) → AreDistinct (flat_map (snpas_of subnet) plan.systems)
  pub ports : AllByRecursion (λ (system : SystemConfiguration). AllByRecursion (IsOn plan.subnets) system.ports) plan.systems
  pub different : AllByRecursion (λ (system : SystemConfiguration). AreOnDifferent system.ports) plan.systems
  pub prefixes : AllByRecursion (λ (system : SystemConfiguration). AllByRecursion (λ (route : Route). IsPrefix route.prefix) system.routes) plan.systems
  -- an address belongs to one system
  pub addresses : AreDistinct (flat_map (λ system. system.addresses) plan.systems)
  pub each_address : AllByRecursion IsAddressed plan.systems
  pub ticks : sum (map ticks_of plan.events) ≤ 1000000
  pub asks : AllByRecursion AsksFairly plan.events
  pub formed : AllByRecursion AsksInForm plan.events
  pub places : AllByRecursion (IsPlaced (length plan.systems)) plan.events
  -- hosts alone are asked to send
  pub senders : AllByRecursion (IsFromHost plan.systems) plan.events
  -- routers alone are said to be congested, and get routes
  pub congested : AllByRecursion (IsOfRouter plan.systems) plan.events
  pub injected : AllByRecursion (InjectsInForm (length plan.subnets)) plan.events
  -- networks change in version 2 alone
  pub of_version : plan.version ≡ 1 → AllByRecursion IsOfVersion1 plan.events
  -- what changes is there
  pub changes : AllByRecursion (ChangesInForm (length plan.subnets) plan.systems) plan.events
  -- so that no two ports of a system come to be on one subnetwork, no two ports there have one address, no router has more than 256
  -- routes, and no system's clock comes to stand further above another one than it may
  pub stand : EachMayCome (standing_of plan.limits.skew plan.systems) plan.events
  pub said : AllByRecursion IsSaid plan.events
  pub few_events : length plan.events ≤ 100000
  pub passed : sum (map passed_by plan.events) ≤ 10000000
