-- The event lines of a scenario text.
use Rattle.std.specs.Prelude.{ℕ, ◌+◌, ◌==◌, ◌&&◌, ◌||◌, not, nat_le, nat_lt, length, Bool, true, false, if◌then◌else◌, List, [], ◌∷◌, map, slice_get, codes, Option, None, Some, Result, Ok, Err}
use Rattle.std.specs.List.{list_any}
use Rattle.std.specs.Str.{bytes_eq}
use Rattle.clnp_plan.specs.ClnpBase.Text.{decimal_of}
use Rattle.clnp_plan.specs.Configuration.{SystemConfiguration}
use Rattle.clnp_plan.specs.declared.ask.Ask.{Ask}
use Rattle.clnp_plan.specs.declared.config.Role.{Role}
use Rattle.clnp_plan.specs.declared.config.Role.TheVariants.{Host, Router}
use Rattle.scenario.specs.Declarations.{is_router}
use Rattle.clnp_plan.specs.ScenarioPlan.Plan.{Subnetwork, passed_by, ticks_of}
use Rattle.clnp_plan.specs.ScenarioPlan.Standing.{Standing, is_second, is_rival, runs_ahead, takes_prefix, standing_of, standing_after}
use Rattle.scenario.specs.Words.{◌>>=◌, wanted, found, literal, declared_word, number_within, number_word, is_digits, address_word, prefix_word, data_word, life_word, options_word, target_word, frame_word, has_prefix, one_word, two_words, four_words, five_words, first_four, is_one_at_most, each_once}
use Rattle.scenario.specs.declared.code.Code.{Code}
use Rattle.scenario.specs.declared.code.Code.TheVariants as bad
use Rattle.scenario.specs.declared.counts.Counts.{Counts}
use Rattle.clnp_plan.specs.declared.scenario_plan.event.Event.{Event}
use Rattle.clnp_plan.specs.declared.scenario_plan.event.Event.TheVariants as event
use Rattle.clnp_plan.specs.declared.scenario_plan.event.Event.TheVariants.{Send, Deliver, Settle, Lose, Tick, Restart, Echo, Congest, Inject}
use Rattle.scenario.specs.declared.wish.Wish.{Wish}
use Rattle.scenario.specs.declared.wish.Wish.TheVariants.{Lasting, NoReport, Whole, Options}

-- What event lines are read over: the version of the text, the names of the subnetworks, the systems as they are declared with their
-- names, and what the events before leave.
pub record Scene : Type 0 where
  pub version : ℕ
  pub subnets : List (List ℕ)
  pub names : List (List ℕ)
  pub systems : List SystemConfiguration
  pub standing : Standing

-- the one of what is declared in a text of a version
abbrev pub scene_of : (version : ℕ) → List Subnetwork → List SystemConfiguration → Standing → Scene
scene_of version subnets systems standing =
    record {
      version = version;
      subnets = map (λ (subnet : Subnetwork). subnet.name) subnets;
      names = map (λ (system : SystemConfiguration). system.name) systems;
      systems = systems;
      standing = standing;
    }

-- before the first event
abbrev pub first_scene : (version skew : ℕ) → List Subnetwork → List SystemConfiguration → Scene
first_scene version skew subnets systems = scene_of version subnets systems (standing_of skew systems)

-- behind an event
abbrev pub scene_after : Scene → Event → Scene
scene_after scene event = record scene { standing = standing_after event scene.standing }

-- a word behind the data of a `send`
unfoldable pub wish_word : List ℕ → Result Wish Code
wish_word word =
    if has_prefix (codes "life=") word then (life_word word >>= λ life. Ok (Lasting life))
    else if has_prefix (codes "opt=") word then (options_word word >>= λ options. Ok (Options options))
    else if bytes_eq word (codes "noreport") then Ok NoReport
    else (literal (codes "whole") word >>= λ _. Ok Whole)

abbrev pub wish_words : List (List ℕ) → Result (List Wish) Code
wish_words [] = Ok []
wish_words (word ∷ words) = do
  wish ← wish_word word
  wishes ← wish_words words
  Ok (wish ∷ wishes)

abbrev pub is_no_report : Wish → Bool
is_no_report NoReport = true
is_no_report _ = false

abbrev pub is_whole : Wish → Bool
is_whole Whole = true
is_whole _ = false

-- the key of a wish
abbrev pub wish_key : Wish → List ℕ
wish_key (Lasting life) = codes "life"
wish_key NoReport = codes "noreport"
wish_key Whole = codes "whole"
wish_key (Options options) = codes "opt"

-- the lifetime that is wished for, or else the system's own
abbrev pub life_in : ℕ → List Wish → ℕ
life_in own [] = own
life_in own (Lasting life ∷ wishes) = life
life_in own (_ ∷ wishes) = life_in own wishes

-- the lifetime that a system's setting says
abbrev pub own_life : Option SystemConfiguration → ℕ
own_life None = 64
own_life (Some system) = system.settings.life

-- the options that are wished for
abbrev pub options_in : List Wish → List ℕ
options_in [] = []
options_in (Options options ∷ wishes) = options
options_in (_ ∷ wishes) = options_in wishes

-- how a unit is to be sent: it is reported on and may be cut, unless a word says that it mustn't
abbrev pub ask_of : ℕ → List Wish → Ask
ask_of own wishes =
    record {
      life = life_in own wishes;
      report = not (list_any is_no_report wishes);
      segment = not (list_any is_whole wishes);
      options = options_in wishes;
    }

abbrev pub is_host : Role → Bool
is_host Host = true
is_host Router = false

-- whether a system is a host
abbrev pub is_host_at : Option SystemConfiguration → Bool
is_host_at None = false
is_host_at (Some system) = is_host system.role

-- the place of the host that a word names
abbrev pub host_word : (names : List (List ℕ)) (systems : List SystemConfiguration) → List ℕ → Result ℕ Code
host_word names systems word = do
  place ← declared_word names word
  _ ← wanted (is_host_at (slice_get systems place)) bad.UnknownName
  Ok place

-- `NAME FROM TO DATA` and wishes, behind `send`: a host sends
unfoldable pub send_line : (names : List (List ℕ)) (systems : List SystemConfiguration) → List (List ℕ)
    → Result Event Code
send_line names systems words = do
  w ← found (first_four words) bad.Syntax
  system ← host_word names systems w.0
  from ← address_word w.1
  to ← address_word w.2
  body ← data_word w.3
  wishes ← wish_words w.4
  _ ← wanted (each_once wish_key wishes) bad.DupName
  Ok (Send system from to body (ask_of (own_life (slice_get systems system)) wishes))

-- `K NAME`, behind `deliver`
unfoldable pub deliver_line : List (List ℕ) → List (List ℕ) → Result Event Code
deliver_line names words = do
  w ← found (two_words words) bad.Syntax
  copy ← number_word 1 1000000000 w.0
  system ← declared_word names w.1
  Ok (Deliver copy system)

-- `N`, behind `tick`
unfoldable pub tick_line : List (List ℕ) → Result ℕ Code
tick_line words = found (one_word words) bad.Syntax >>= number_word 1 65535

-- `NAME N`, behind `tick`: one system ticks alone
unfoldable pub tick_system_line : Scene → List (List ℕ) → Result Event Code
tick_system_line scene words = do
  w ← found (two_words words) bad.Syntax
  system ← declared_word scene.names w.0
  count ← number_word 1 65535 w.1
  _ ← wanted (not (runs_ahead system count scene.standing)) bad.Limits
  Ok (event.TickSystem system count)

-- behind `tick`: all systems tick, or one system alone, which it does in version 2 alone
unfoldable pub ticks_line : Scene → List (List ℕ) → Result Event Code
ticks_line scene words =
    if (scene.version == 1) || is_one_at_most words then (tick_line words >>= λ count. Ok (Tick count))
    else tick_system_line scene words

-- `NAME`, behind `restart`
unfoldable pub restart_line : List (List ℕ) → List (List ℕ) → Result Event Code
restart_line names words = do
  word ← found (one_word words) bad.Syntax
  system ← declared_word names word
  Ok (Restart system)

-- `NAME FROM TO DATA`, behind `echo`: any system asks for an echo
unfoldable pub echo_line : List (List ℕ) → List (List ℕ) → Result Event Code
echo_line names words = do
  w ← found (four_words words) bad.Syntax
  system ← declared_word names w.0
  from ← address_word w.1
  to ← address_word w.2
  body ← data_word w.3
  Ok (Echo system from to body)

-- whether a system is a router
abbrev pub is_router_at : Option SystemConfiguration → Bool
is_router_at None = false
is_router_at (Some system) = is_router system.role

-- the place of the router that a word names
abbrev pub router_word : (names : List (List ℕ)) (systems : List SystemConfiguration) → List ℕ → Result ℕ Code
router_word names systems word = do
  place ← declared_word names word
  _ ← wanted (is_router_at (slice_get systems place)) bad.UnknownName
  Ok place

-- `on` or `off`
abbrev pub on_word : List ℕ → Result Bool Code
on_word word =
    if bytes_eq word (codes "on") then Ok true
    else if bytes_eq word (codes "off") then Ok false
    else Err bad.Syntax

-- `NAME on` or `NAME off`, behind `congest`: a router is congested, or no longer
unfoldable pub congest_line : (names : List (List ℕ)) (systems : List SystemConfiguration) → List (List ℕ)
    → Result Event Code
congest_line names systems words = do
  w ← found (two_words words) bad.Syntax
  system ← router_word names systems w.0
  on ← on_word w.1
  Ok (Congest system on)

-- `SUBNET FROM TO HEX`, behind `inject`: a frame of at most 70,000 octets comes from outside
unfoldable pub inject_line : (subnets : List (List ℕ)) → List (List ℕ) → Result Event Code
inject_line subnets words = do
  w ← found (four_words words) bad.Syntax
  subnet ← declared_word subnets w.0
  from ← address_word w.1
  to ← target_word w.2
  octets ← frame_word w.3
  _ ← wanted (nat_le (length octets) 70000) bad.Count
  Ok (Inject subnet from to octets)

-- `N`, behind `settle` and `lose`
unfoldable pub count_line : List (List ℕ) → Result ℕ Code
count_line words = found (one_word words) bad.Syntax >>= number_word 1 100000

-- whether a system has a port of this number
abbrev pub has_number : (number : ℕ) → Option SystemConfiguration → Bool
has_number number None = false
has_number number (Some system) = nat_lt number (length system.ports)

-- the number of a port that a system has
abbrev pub port_word : Option SystemConfiguration → List ℕ → Result ℕ Code
port_word system word = do
  number ← number_word 0 7 word
  _ ← wanted (has_number number system) bad.UnknownName
  Ok number

-- `SUBNET MTU`, behind `mtu`: an MTU that is decimal and out of its range has a code of its own
unfoldable pub mtu_line : (subnets : List (List ℕ)) → List (List ℕ) → Result Event Code
mtu_line subnets words = do
  w ← found (two_words words) bad.Syntax
  subnet ← declared_word subnets w.0
  _ ← wanted (is_digits w.1) bad.Number
  mtu ← found (number_within 512 65535 (decimal_of w.1)) bad.Mtu
  Ok (event.Mtu subnet mtu)

-- `NAME PREFIX PORT SNPA TITLE`, behind `route`: the route of the prefix is this one from now on
unfoldable pub route_line : Scene → List (List ℕ) → Result Event Code
route_line scene words = do
  w ← found (five_words words) bad.Syntax
  system ← router_word scene.names scene.systems w.0
  prefix ← prefix_word w.1
  port ← port_word (slice_get scene.systems system) w.2
  snpa ← address_word w.3
  title ← address_word w.4
  _ ← wanted (takes_prefix prefix (slice_get scene.standing.prefixes system)) bad.Count
  Ok (event.Route system (record { prefix = prefix; port = port; snpa = snpa; title = title }))

-- `NAME PREFIX`, behind `unroute`: the prefix has no route from now on
unfoldable pub unroute_line : Scene → List (List ℕ) → Result Event Code
unroute_line scene words = do
  w ← found (two_words words) bad.Syntax
  system ← router_word scene.names scene.systems w.0
  prefix ← prefix_word w.1
  Ok (event.Unroute system prefix)

-- `NAME NUMBER SUBNET SNPA`, behind `port`: the port is at that address on that subnetwork from now on
unfoldable pub port_line : Scene → List (List ℕ) → Result Event Code
port_line scene words = do
  w ← found (four_words words) bad.Syntax
  system ← declared_word scene.names w.0
  number ← port_word (slice_get scene.systems system) w.1
  subnet ← declared_word scene.subnets w.2
  snpa ← address_word w.3
  _ ← wanted (not (list_any (is_second system number subnet) scene.standing.spots)) bad.DupName
  _ ← wanted (not (list_any (is_rival system number subnet snpa) scene.standing.spots)) bad.DupAddress
  Ok (event.Port system number subnet snpa)

-- a line that says how the network changes, by its keyword
unfoldable pub change_line : Scene → List ℕ → List (List ℕ) → Result Event Code
change_line scene keyword words =
    if bytes_eq keyword (codes "mtu") then mtu_line scene.subnets words
    else if bytes_eq keyword (codes "route") then route_line scene words
    else if bytes_eq keyword (codes "unroute") then unroute_line scene words
    else if bytes_eq keyword (codes "port") then port_line scene words
    else Err bad.Syntax

-- a line that says what happens; networks change in version 2 alone
unfoldable pub event_line : Scene → List (List ℕ) → Result Event Code
event_line scene [] = Err bad.Syntax
event_line scene (keyword ∷ words) =
    if bytes_eq keyword (codes "send") then send_line scene.names scene.systems words
    else if bytes_eq keyword (codes "deliver") then deliver_line scene.names words
    else if bytes_eq keyword (codes "settle") then (count_line words >>= λ count. Ok (Settle count))
    else if bytes_eq keyword (codes "lose") then (count_line words >>= λ count. Ok (Lose count))
    else if bytes_eq keyword (codes "tick") then ticks_line scene words
    else if bytes_eq keyword (codes "restart") then restart_line scene.names words
    else if bytes_eq keyword (codes "echo") then echo_line scene.names words
    else if bytes_eq keyword (codes "congest") then congest_line scene.names scene.systems words
    else if bytes_eq keyword (codes "inject") then inject_line scene.subnets words
    else if scene.version == 1 then Err bad.Syntax
    else change_line scene keyword words

-- whether a line begins as one of an event which a live node takes; the ticks of one system alone are none
abbrev pub is_live_line : List (List ℕ) → Bool
is_live_line [] = false
is_live_line (keyword ∷ words) =
    bytes_eq keyword (codes "send") || (bytes_eq keyword (codes "echo") || (bytes_eq keyword (codes "tick") && is_one_at_most words))

-- the counts with one more event
abbrev pub counted : Counts → Event → Counts
counted counts event =
    record {
      events = counts.events + 1;
      passed = counts.passed + passed_by event;
      ticks = counts.ticks + ticks_of event;
    }

-- at most 100,000 events, 10,000,000 copies settled and lost, and 1,000,000 ticks
abbrev pub are_few : Counts → Bool
are_few counts = nat_le counts.events 100000 && (nat_le counts.passed 10000000 && nat_le counts.ticks 1000000)

-- before the first event
abbrev pub nothing_counted : Counts
nothing_counted = record { events = 0; passed = 0; ticks = 0 }
