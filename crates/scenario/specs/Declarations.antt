-- The declarations of a scenario text: limits, subnetworks, systems, their addresses, their ports and their routes.
use Rattle.std.specs.Prelude.{ℕ, ◌+◌, ◌*◌, ◌==◌, ◌&&◌, ◌||◌, not, nat_le, nat_lt, Bool, true, false, if◌then◌else◌, List, [], ◌∷◌, ◌++◌, map, filter, length, slice_get, codes, Option, None, Some, is_some, option_map, Result, Ok, Err}
use Rattle.std.specs.List.{list_any, list_all, flat_map, insert, count_by, range_with_len}
use Rattle.std.specs.Str.{bytes_eq}
use Rattle.clnp_plan.specs.ClnpBase.Text.{decimal_of}
use Rattle.clnp_plan.specs.Configuration.{SystemConfiguration}
use Rattle.clnp_plan.specs.declared.config.Limits.{Limits}
use Rattle.clnp_plan.specs.declared.config.PortConfig.{PortConfig}
use Rattle.clnp_plan.specs.declared.config.Settings.{Settings}
use Rattle.clnp_plan.specs.declared.config.Role.{Role}
use Rattle.clnp_plan.specs.declared.config.Role.TheVariants.{Host, Router}
use Rattle.clnp_plan.specs.Forwarding.Distinct as prefixes
use Rattle.clnp_plan.specs.SystemTables.declared.forwarding.route.Route.{Route}
use Rattle.clnp_plan.specs.ScenarioPlan.Plan.{Subnetwork}
use Rattle.clnp_plan.specs.ScenarioPlan.Standing.{changed_at, is_among}
use Rattle.scenario.specs.Words.{◌>>=◌, wanted, found, name_word, declared_word, number_within, number_word, number_behind, is_digits, address_word, prefix_word, life_word, has_prefix, two_words, three_words, four_words, five_words, first_two, first_four, is_one_at_most, is_taken, each_once}
use Rattle.scenario.specs.declared.code.Code.{Code}
use Rattle.scenario.specs.declared.code.Code.TheVariants as bad
use Rattle.scenario.specs.declared.setting.Setting.{Setting}
use Rattle.scenario.specs.declared.setting.Setting.TheVariants.{Hello, Suggest, Checksum, Life, RedirectHold, Slots, Segments, Budget, Neighbours, Routers, Redirects}

-- a port by its number
pub record NumberedPort : Type 0 where
  pub number : ℕ
  pub port : PortConfig

-- what the lines so far say of a system
pub record DeclaredSystem : Type 0 where
  pub name : List ℕ
  pub role : Role
  pub settings : Settings
  pub addresses : List (List ℕ)
  -- in the order of their numbers
  pub ports : List NumberedPort
  -- in the order of their lines
  pub routes : List Route

-- what the lines so far declare, in a text of a version
pub record Declarations : Type 0 where
  pub version : ℕ
  pub limits : Option Limits
  pub subnets : List Subnetwork
  pub systems : List DeclaredSystem

abbrev pub nothing_declared : (version : ℕ) → Declarations
nothing_declared version = record { version = version; limits = None; subnets = []; systems = [] }

abbrev pub subnet_names : Declarations → List (List ℕ)
subnet_names d = map (λ subnet. subnet.name) d.subnets

abbrev pub system_names : Declarations → List (List ℕ)
system_names d = map (λ system. system.name) d.systems

-- `L R Q S`, behind `limits`; in version 1 `L R Q`, where S is 0
abbrev pub limits_words : (version : ℕ) → List (List ℕ) → Option (List ℕ × List ℕ × List ℕ × List ℕ)
limits_words version words =
    if version == 1 then option_map (λ w. (w.0, w.1, w.2, codes "0")) (three_words words) else four_words words

-- How long a copy may be given, a buffer is kept and an identifier rests, and how far apart clocks may stand.
unfoldable pub limits_line : Declarations → List (List ℕ) → Result Declarations Code
limits_line d words = do
  w ← found (limits_words d.version words) bad.Syntax
  age ← number_word 1 4096 w.0
  hold ← number_word 1 255 w.1
  reuse ← number_word 1 16384 w.2
  skew ← number_word 0 4096 w.3
  _ ← wanted (not (is_some d.limits)) bad.DupName
  _ ← wanted (nat_le (age + hold + 2 * skew) reuse) bad.Limits
  Ok (record d { limits = Some (record { age = age; hold = hold; reuse = reuse; skew = skew }) })

-- the limits that are declared, or else the usual ones
abbrev pub limits_of : Option Limits → Limits
limits_of None = record { age = 256; hold = 60; reuse = 320; skew = 0 }
limits_of (Some limits) = limits

-- `NAME MTU`, behind `subnet`: an MTU that is decimal and out of its range has a code of its own
unfoldable pub subnet_line : Declarations → List (List ℕ) → Result Declarations Code
subnet_line d words = do
  w ← found (two_words words) bad.Syntax
  name ← name_word w.0
  _ ← wanted (is_digits w.1) bad.Number
  _ ← wanted (not (is_taken (subnet_names d) name)) bad.DupName
  mtu ← found (number_within 512 65535 (decimal_of w.1)) bad.Mtu
  _ ← wanted (nat_lt (length d.subnets) 64) bad.Count
  Ok (record d { subnets = d.subnets ++ record { name = name; mtu = mtu } ∷ [] })

-- `checksum=on` or `checksum=off`
abbrev pub checksum_word : List ℕ → Result Setting Code
checksum_word word =
    if bytes_eq word (codes "checksum=on") then Ok (Checksum true)
    else if bytes_eq word (codes "checksum=off") then Ok (Checksum false)
    else Err bad.Syntax

-- a key of what a system has room for, and its number
unfoldable pub room_word : List ℕ → Result Setting Code
room_word word =
    if has_prefix (codes "slots=") word then (number_behind (codes "slots=") 1 1024 word >>= λ slots. Ok (Slots slots))
    else if has_prefix (codes "segments=") word then (number_behind (codes "segments=") 1 16384 word >>= λ segments. Ok (Segments segments))
    else if has_prefix (codes "budget=") word then (number_behind (codes "budget=") 512 4194304 word >>= λ budget. Ok (Budget budget))
    else if has_prefix (codes "neighbours=") word then (number_behind (codes "neighbours=") 1 1024 word >>= λ neighbours. Ok (Neighbours neighbours))
    else if has_prefix (codes "routers=") word then (number_behind (codes "routers=") 1 64 word >>= λ routers. Ok (Routers routers))
    else (number_behind (codes "redirects=") 1 1024 word >>= λ redirects. Ok (Redirects redirects))

-- a key and its value
unfoldable pub setting_word : List ℕ → Result Setting Code
setting_word word =
    if has_prefix (codes "life=") word then (life_word word >>= λ life. Ok (Life life))
    else if has_prefix (codes "checksum=") word then checksum_word word
    else if has_prefix (codes "rhold=") word then (number_behind (codes "rhold=") 0 65535 word >>= λ seconds. Ok (RedirectHold seconds))
    else if has_prefix (codes "hello=") word then (number_behind (codes "hello=") 0 600 word >>= λ seconds. Ok (Hello seconds))
    else if has_prefix (codes "suggest=") word then (number_behind (codes "suggest=") 0 32767 word >>= λ seconds. Ok (Suggest seconds))
    else room_word word

abbrev pub setting_words : List (List ℕ) → Result (List Setting) Code
setting_words [] = Ok []
setting_words (word ∷ words) = do
  setting ← setting_word word
  settings ← setting_words words
  Ok (setting ∷ settings)

-- the key of a setting
abbrev pub key_of : Setting → List ℕ
key_of (Hello seconds) = codes "hello"
key_of (Suggest seconds) = codes "suggest"
key_of (Checksum on) = codes "checksum"
key_of (Life life) = codes "life"
key_of (RedirectHold seconds) = codes "rhold"
key_of (Slots slots) = codes "slots"
key_of (Segments segments) = codes "segments"
key_of (Budget budget) = codes "budget"
key_of (Neighbours neighbours) = codes "neighbours"
key_of (Routers routers) = codes "routers"
key_of (Redirects redirects) = codes "redirects"

abbrev pub with_setting : Setting → Settings → Settings
with_setting (Hello seconds) settings = record settings { hello = seconds }
with_setting (Suggest seconds) settings = record settings { suggest = seconds }
with_setting (Checksum on) settings = record settings { sealed = on }
with_setting (Life life) settings = record settings { life = life }
with_setting (RedirectHold seconds) settings = record settings { rhold = seconds }
with_setting (Slots slots) settings = record settings { slots = slots }
with_setting (Segments segments) settings = record settings { segments = segments }
with_setting (Budget budget) settings = record settings { budget = budget }
with_setting (Neighbours neighbours) settings = record settings { neighbours = neighbours }
with_setting (Routers routers) settings = record settings { routers = routers }
with_setting (Redirects redirects) settings = record settings { redirects = redirects }

-- what a system has where no word says another value
abbrev pub usual_settings : Settings
usual_settings =
    record {
      hello = 60;
      suggest = 0;
      rhold = 120;
      slots = 16;
      segments = 1024;
      budget = 262144;
      neighbours = 64;
      routers = 8;
      redirects = 64;
      life = 64;
      sealed = true;
    }

abbrev pub settings_of : List Setting → Settings
settings_of [] = usual_settings
settings_of (setting ∷ others) = with_setting setting (settings_of others)

-- `host` or `router`: an end system or an intermediate system
abbrev pub role_word : List ℕ → Result Role Code
role_word word =
    if bytes_eq word (codes "host") then Ok Host
    else if bytes_eq word (codes "router") then Ok Router
    else Err bad.Syntax

-- `NAME`, `host` or `router`, and settings, behind `system`
unfoldable pub system_line : Declarations → List (List ℕ) → Result Declarations Code
system_line d words = do
  w ← found (first_two words) bad.Syntax
  name ← name_word w.0
  role ← role_word w.1
  settings ← setting_words w.2
  _ ← wanted (not (is_taken (system_names d) name) && each_once key_of settings) bad.DupName
  _ ← wanted (nat_lt (length d.systems) 64) bad.Count
  Ok (record d { systems = d.systems ++ record { name = name; role = role; settings = settings_of settings; addresses = []; ports = []; routes = [] } ∷ [] })

-- the most addresses that a system of a role has
abbrev pub most_addresses : Role → ℕ
most_addresses Host = 8
most_addresses Router = 1

-- the most ports that a system of a role has
abbrev pub most_ports : Role → ℕ
most_ports Host = 1
most_ports Router = 8

-- whether its role lets a system have an address more
abbrev pub takes_address : Option DeclaredSystem → Bool
takes_address None = false
takes_address (Some system) = nat_lt (length system.addresses) (most_addresses system.role)

-- whether its role lets a system have a port more
abbrev pub takes_port : Option DeclaredSystem → Bool
takes_port None = false
takes_port (Some system) = nat_lt (length system.ports) (most_ports system.role)

abbrev pub with_address : List ℕ → DeclaredSystem → DeclaredSystem
with_address address system = record system { addresses = system.addresses ++ address ∷ [] }

-- `NAME ADDRESS`, behind `address`
unfoldable pub address_line : Declarations → List (List ℕ) → Result Declarations Code
address_line d words = do
  w ← found (two_words words) bad.Syntax
  place ← declared_word (system_names d) w.0
  address ← address_word w.1
  _ ← wanted (not (is_among address (flat_map (λ system. system.addresses) d.systems))) bad.DupAddress
  _ ← wanted (takes_address (slice_get d.systems place)) bad.Count
  Ok (record d { systems = changed_at (with_address address) place d.systems })

-- the system at a place has a port with this number, or one on this subnetwork
abbrev pub has_port : ℕ → ℕ → Option DeclaredSystem → Bool
has_port number subnet None = false
has_port number subnet (Some system) =
    list_any (λ numbered. (numbered.number == number) || (numbered.port.subnet == subnet)) system.ports

-- the addresses of a system's ports on a subnetwork
abbrev pub snpas_on : ℕ → DeclaredSystem → List (List ℕ)
snpas_on subnet system = map (λ numbered. numbered.port.snpa) (filter (λ numbered. numbered.port.subnet == subnet) system.ports)

-- how many of some ports have a lower number
abbrev pub count_below : ℕ → List NumberedPort → ℕ
count_below number ports = count_by (λ numbered. nat_lt numbered.number number) ports

-- a port stands behind those of lower numbers
abbrev pub with_port : NumberedPort → DeclaredSystem → DeclaredSystem
with_port numbered system = record system { ports = insert system.ports (count_below numbered.number system.ports) numbered }

abbrev pub mtu_at : Option Subnetwork → ℕ
mtu_at None = 0
mtu_at (Some subnet) = subnet.mtu

-- the transit of a port, where one is said
abbrev pub transit_word : List (List ℕ) → Result ℕ Code
transit_word [] = Ok 1
transit_word (word ∷ words) = number_word 1 255 word

-- `NAME NUMBER SUBNET SNPA` and perhaps TRANSIT, behind `port`
unfoldable pub port_line : Declarations → List (List ℕ) → Result Declarations Code
port_line d words = do
  w ← found (first_four words) bad.Syntax
  _ ← wanted (is_one_at_most w.4) bad.Syntax
  place ← declared_word (system_names d) w.0
  number ← number_word 0 7 w.1
  subnet ← declared_word (subnet_names d) w.2
  snpa ← address_word w.3
  transit ← transit_word w.4
  _ ← wanted (not (has_port number subnet (slice_get d.systems place))) bad.DupName
  _ ← wanted (not (is_among snpa (flat_map (snpas_on subnet) d.systems))) bad.DupAddress
  _ ← wanted (takes_port (slice_get d.systems place)) bad.Count
  Ok (record d { systems = changed_at (with_port (record { number = number; port = record { subnet = subnet; snpa = snpa; transit = transit; mtu = mtu_at (slice_get d.subnets subnet) } })) place d.systems })

abbrev pub is_router : Role → Bool
is_router Host = false
is_router Router = true

-- whether a system is a router
abbrev pub is_router_at : Option DeclaredSystem → Bool
is_router_at None = false
is_router_at (Some system) = is_router system.role

-- the place of the router that a word names
abbrev pub router_word : Declarations → List ℕ → Result ℕ Code
router_word d word = do
  place ← declared_word (system_names d) word
  _ ← wanted (is_router_at (slice_get d.systems place)) bad.UnknownName
  Ok place

-- whether one of some ports has this number
abbrev pub has_number : List NumberedPort → ℕ → Bool
has_number ports number = list_any (λ numbered. numbered.number == number) ports

-- whether a system has a port with this number
abbrev pub has_numbered : ℕ → Option DeclaredSystem → Bool
has_numbered number None = false
has_numbered number (Some system) = has_number system.ports number

-- the number of a port that a system has so far
abbrev pub port_word : Option DeclaredSystem → List ℕ → Result ℕ Code
port_word system word = do
  number ← number_word 0 7 word
  _ ← wanted (has_numbered number system) bad.UnknownName
  Ok number

-- whether a system has a route of this prefix
abbrev pub has_route : List ℕ → Option DeclaredSystem → Bool
has_route prefix None = false
has_route prefix (Some system) = list_any (prefixes.has_prefix prefix) system.routes

-- whether a router may have a route more
abbrev pub takes_route : Option DeclaredSystem → Bool
takes_route None = false
takes_route (Some system) = nat_lt (length system.routes) 256

-- a route stands behind those of earlier lines
abbrev pub with_route : Route → DeclaredSystem → DeclaredSystem
with_route route system = record system { routes = system.routes ++ route ∷ [] }

-- `NAME PREFIX PORT SNPA TITLE`, behind `route`: a router has routes, and each leads out of a port of its own
unfoldable pub route_line : Declarations → List (List ℕ) → Result Declarations Code
route_line d words = do
  w ← found (five_words words) bad.Syntax
  place ← router_word d w.0
  prefix ← prefix_word w.1
  port ← port_word (slice_get d.systems place) w.2
  snpa ← address_word w.3
  title ← address_word w.4
  _ ← wanted (not (has_route prefix (slice_get d.systems place))) bad.DupAddress
  _ ← wanted (takes_route (slice_get d.systems place)) bad.Count
  Ok (record d { systems = changed_at (with_route (record { prefix = prefix; port = port; snpa = snpa; title = title })) place d.systems })

-- a line that declares something
unfoldable pub declaration_line : Declarations → List (List ℕ) → Result Declarations Code
declaration_line d [] = Err bad.Syntax
declaration_line d (keyword ∷ words) =
    if bytes_eq keyword (codes "limits") then limits_line d words
    else if bytes_eq keyword (codes "subnet") then subnet_line d words
    else if bytes_eq keyword (codes "system") then system_line d words
    else if bytes_eq keyword (codes "address") then address_line d words
    else if bytes_eq keyword (codes "port") then port_line d words
    else if bytes_eq keyword (codes "route") then route_line d words
    else Err bad.Syntax

-- whether ports are numbered from 0 without a gap
abbrev pub have_no_gap : List NumberedPort → Bool
have_no_gap ports = list_all (has_number ports) (range_with_len 0 (length ports))

-- whether a system has all that it must: an address and a port at least, and its ports numbered from 0 without a gap
abbrev pub is_complete : DeclaredSystem → Bool
is_complete system = nat_le 1 (length system.addresses) && (nat_le 1 (length system.ports) && have_no_gap system.ports)

-- whether the limits are there where they must be: version 1 has usual ones
abbrev pub has_limits : Declarations → Bool
has_limits d = is_some d.limits || (d.version == 1)

-- at the line `events` all is there that must be: the limits, and what each system must have
abbrev pub all_declared : Declarations → Result (Unit {0}) Code
all_declared d = do
  _ ← wanted (has_limits d) bad.Syntax
  wanted (list_all is_complete d.systems) bad.Count

-- whether one system alone is declared, with a port for each of so many links
abbrev pub fits_board : (links : ℕ) → List DeclaredSystem → Bool
fits_board links systems = (length systems == 1) && list_all (λ (system : DeclaredSystem). length system.ports == links) systems

-- a system as it is declared
abbrev pub configuration_of : DeclaredSystem → SystemConfiguration
configuration_of system =
    record {
      name = system.name;
      role = system.role;
      addresses = system.addresses;
      ports = map (λ numbered. numbered.port) system.ports;
      routes = system.routes;
      settings = system.settings;
    }
