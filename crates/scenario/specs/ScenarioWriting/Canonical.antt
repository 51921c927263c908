-- The text that a scenario is written as: each line with all its words, in one order.
use Rattle.std.specs.Prelude.{ℕ, ◌+◌, ◌==◌, not, Bool, true, false, if◌then◌else◌, List, [], ◌∷◌, ◌++◌, slice_get, codes, Option, None, Some}
use Rattle.std.specs.List.{flat_map}
use Rattle.std.specs.Fmt.{decimal}
use Rattle.clnp_plan.specs.Nsap.Prefix.{prefix_text}
use Rattle.clnp_plan.specs.Nsap.Text.{hex_text}
use Rattle.clnp_plan.specs.SystemTables.declared.forwarding.route.Route.{Route}
use Rattle.clnp_plan.specs.Configuration.{SystemConfiguration}
use Rattle.clnp_plan.specs.Journal.{line_of, on_or_off, target_text}
use Rattle.clnp_plan.specs.declared.ask.Ask.{Ask}
use Rattle.clnp_plan.specs.declared.config.Limits.{Limits}
use Rattle.clnp_plan.specs.declared.config.PortConfig.{PortConfig}
use Rattle.clnp_plan.specs.declared.config.Role.{Role}
use Rattle.clnp_plan.specs.declared.config.Role.TheVariants.{Host, Router}
use Rattle.clnp_plan.specs.declared.config.Settings.{Settings}
use Rattle.clnp_plan.specs.ScenarioPlan.Plan.{Plan, Subnetwork}
use Rattle.clnp_plan.specs.declared.scenario_plan.event.Body.{Body}
use Rattle.clnp_plan.specs.declared.scenario_plan.event.Body.TheVariants.{Hex, Pattern}
use Rattle.clnp_plan.specs.declared.scenario_plan.event.Event.{Event}
use Rattle.clnp_plan.specs.declared.scenario_plan.event.Event.TheVariants as event
use Rattle.clnp_plan.specs.declared.scenario_plan.event.Event.TheVariants.{Send, Deliver, Settle, Lose, Tick, Restart, Echo, Congest, Inject}

-- ---- words

-- a key and its number
abbrev pub keyed : (key : List ℕ) → ℕ → List ℕ
keyed key number = key ++ decimal number

-- a key and its octets in lower-case hexadecimal
abbrev pub spelled_behind : (key octets : List ℕ) → List ℕ
spelled_behind key octets = key ++ hex_text octets

abbrev pub role_text : Role → List ℕ
role_text Host = codes "host"
role_text Router = codes "router"

abbrev pub checksum_text : Bool → List ℕ
checksum_text sealed = codes "checksum=" ++ on_or_off sealed

-- data keep the form in which they were read
abbrev pub body_text : Body → List ℕ
body_text (Hex octets) = spelled_behind (codes "hex:") octets
body_text (Pattern len start) = keyed (codes "pat:") len ++ keyed (codes ":") start

abbrev pub subnet_name : Option Subnetwork → List ℕ
subnet_name None = []
subnet_name (Some subnet) = subnet.name

abbrev pub system_name : Option SystemConfiguration → List ℕ
system_name None = []
system_name (Some system) = system.name

-- ---- declarations

abbrev pub header_text : (version : ℕ) → List ℕ
header_text version = line_of (codes "clnp-sim") (decimal version ∷ [])

-- in version 1 no word says how far apart clocks may stand
abbrev pub skew_words : (version skew : ℕ) → List (List ℕ)
skew_words version skew = if version == 1 then [] else decimal skew ∷ []

abbrev pub limits_text : (version : ℕ) → Limits → List ℕ
limits_text version limits =
    line_of (codes "limits") (decimal limits.age ∷ decimal limits.hold ∷ decimal limits.reuse ∷ skew_words version limits.skew)

abbrev pub subnet_text : Subnetwork → List ℕ
subnet_text subnet = line_of (codes "subnet") (subnet.name ∷ decimal subnet.mtu ∷ [])

-- each key, also where its value is the usual one
abbrev pub setting_texts : Settings → List (List ℕ)
setting_texts settings =
    keyed (codes "hello=") settings.hello
    ∷ keyed (codes "suggest=") settings.suggest
    ∷ keyed (codes "rhold=") settings.rhold
    ∷ keyed (codes "slots=") settings.slots
    ∷ keyed (codes "segments=") settings.segments
    ∷ keyed (codes "budget=") settings.budget
    ∷ keyed (codes "neighbours=") settings.neighbours
    ∷ keyed (codes "routers=") settings.routers
    ∷ keyed (codes "redirects=") settings.redirects
    ∷ keyed (codes "life=") settings.life
    ∷ checksum_text settings.sealed
    ∷ []

unfoldable pub system_text : SystemConfiguration → List ℕ
system_text system = line_of (codes "system") (system.name ∷ role_text system.role ∷ setting_texts system.settings)

abbrev pub address_text : (name address : List ℕ) → List ℕ
address_text name address = line_of (codes "address") (name ∷ hex_text address ∷ [])

-- a port with its transit, also where that is the usual one
abbrev pub port_text : List Subnetwork → (name : List ℕ) (number : ℕ) → PortConfig → List ℕ
port_text subnets name number port =
    line_of (codes "port") (name ∷ decimal number ∷ subnet_name (slice_get subnets port.subnet) ∷ hex_text port.snpa ∷ decimal port.transit ∷ [])

-- ports by their numbers, the first of which is given
abbrev pub port_texts : List Subnetwork → (name : List ℕ) (number : ℕ) → List PortConfig → List ℕ
port_texts subnets name number [] = []
port_texts subnets name number (port ∷ ports) = port_text subnets name number port ++ port_texts subnets name (number + 1) ports

abbrev pub route_text : (name : List ℕ) → Route → List ℕ
route_text name route =
    line_of (codes "route") (name ∷ prefix_text route.prefix ∷ decimal route.port ∷ hex_text route.snpa ∷ hex_text route.title ∷ [])

-- what a system has: its addresses, its ports and its routes
unfoldable pub belongings_text : List Subnetwork → SystemConfiguration → List ℕ
belongings_text subnets system =
    flat_map (address_text system.name) system.addresses
    ++ port_texts subnets system.name 0 system.ports
    ++ flat_map (route_text system.name) system.routes

-- ---- events

-- a word that stands only where it is wanted
abbrev pub word_if : Bool → List ℕ → List (List ℕ)
word_if true word = word ∷ []
word_if false word = []

-- no word for no options
abbrev pub options_words : (options : List ℕ) → List (List ℕ)
options_words [] = []
options_words (octet ∷ octets) = spelled_behind (codes "opt=") (octet ∷ octets) ∷ []

-- how a unit is to be sent: its lifetime, also where that is the system's own, and what holds of the rest
abbrev pub ask_words : Ask → List (List ℕ)
ask_words ask =
    keyed (codes "life=") ask.life
    ∷ word_if (not ask.report) (codes "noreport") ++ word_if (not ask.segment) (codes "whole") ++ options_words ask.options

abbrev pub event_text : List Subnetwork → List SystemConfiguration → Event → List ℕ
event_text subnets systems (Send system from to body ask) =
    line_of (codes "send") (system_name (slice_get systems system) ∷ hex_text from ∷ hex_text to ∷ body_text body ∷ ask_words ask)
event_text subnets systems (Deliver copy system) = line_of (codes "deliver") (decimal copy ∷ system_name (slice_get systems system) ∷ [])
event_text subnets systems (Settle count) = line_of (codes "settle") (decimal count ∷ [])
event_text subnets systems (Lose count) = line_of (codes "lose") (decimal count ∷ [])
event_text subnets systems (Tick count) = line_of (codes "tick") (decimal count ∷ [])
event_text subnets systems (event.TickSystem system count) = line_of (codes "tick") (system_name (slice_get systems system) ∷ decimal count ∷ [])
event_text subnets systems (Restart system) = line_of (codes "restart") (system_name (slice_get systems system) ∷ [])
event_text subnets systems (Echo system from to body) =
    line_of (codes "echo") (system_name (slice_get systems system) ∷ hex_text from ∷ hex_text to ∷ body_text body ∷ [])
event_text subnets systems (Congest system on) = line_of (codes "congest") (system_name (slice_get systems system) ∷ on_or_off on ∷ [])
event_text subnets systems (Inject subnet from to octets) =
    line_of (codes "inject") (subnet_name (slice_get subnets subnet) ∷ hex_text from ∷ target_text to ∷ hex_text octets ∷ [])
event_text subnets systems (event.Mtu subnet mtu) = line_of (codes "mtu") (subnet_name (slice_get subnets subnet) ∷ decimal mtu ∷ [])
event_text subnets systems (event.Route system route) = route_text (system_name (slice_get systems system)) route
event_text subnets systems (event.Unroute system prefix) =
    line_of (codes "unroute") (system_name (slice_get systems system) ∷ prefix_text prefix ∷ [])
event_text subnets systems (event.Port system number subnet snpa) =
    line_of (codes "port") (system_name (slice_get systems system) ∷ decimal number ∷ subnet_name (slice_get subnets subnet) ∷ hex_text snpa ∷ [])

-- ---- the whole

abbrev pub declarations_text : Plan → List ℕ
declarations_text plan =
    limits_text plan.version plan.limits
    ++ flat_map subnet_text plan.subnets
    ++ flat_map system_text plan.systems
    ++ flat_map (belongings_text plan.subnets) plan.systems

abbrev pub text_of : Plan → List ℕ
text_of plan =
    header_text plan.version ++ declarations_text plan ++ codes "events\n" ++ flat_map (event_text plan.subnets plan.systems) plan.events ++ codes "end\n"
