-- The scenario that a seed makes: two local networks that two routers join, and a storm of events on them.
use Rattle.std.specs.Prelude.{ℕ, zero, suc, ◌+◌, ◌*◌, ◌/◌, ◌%◌, ◌^◌, ◌==◌, nat_lt, true, if◌then◌else◌, List, [], ◌∷◌, ◌++◌, codes, Option, None, Some}
use Rattle.clnp_plan.specs.Configuration.{SystemConfiguration}
use Rattle.clnp_plan.specs.declared.ask.Ask.{Ask}
use Rattle.clnp_plan.specs.declared.config.PortConfig.{PortConfig}
use Rattle.clnp_plan.specs.declared.config.Role.TheVariants.{Host, Router}
use Rattle.clnp_plan.specs.declared.config.Settings.{Settings}
use Rattle.clnp_plan.specs.SystemTables.declared.forwarding.route.Route.{Route}
use Rattle.clnp_plan.specs.Nsap.Prefix.{digits_of}
use Rattle.scenario.specs.Declarations.{usual_settings}
use Rattle.clnp_plan.specs.ScenarioPlan.Plan.{Plan}
use Rattle.clnp_plan.specs.declared.scenario_plan.event.Body.TheVariants.{Pattern}
use Rattle.clnp_plan.specs.declared.scenario_plan.event.Event.{Event}
use Rattle.clnp_plan.specs.declared.scenario_plan.event.Event.TheVariants.{Send, Deliver, Settle, Lose, Tick, Restart, Echo}

-- ---- what is declared

-- the part of an address that is the same at all systems of a local network
abbrev pub area : (network : ℕ) → List ℕ
area network = 0x47 ∷ 0x00 ∷ 0x27 ∷ network ∷ []

abbrev pub address_in : (network system : ℕ) → List ℕ
address_in network system = 0x47 ∷ 0x00 ∷ 0x27 ∷ network ∷ system ∷ []

-- each unit lasts 32 ticks
abbrev pub settings : Settings
settings = record usual_settings { life = 32 }

-- the subnetworks by their places: the first local network, the one between the routers, and the second local network
abbrev pub on_first : (snpa : ℕ) → PortConfig
on_first snpa = record { subnet = 0; snpa = snpa ∷ []; transit = 1; mtu = 1500 }

abbrev pub on_middle : (snpa : ℕ) → PortConfig
on_middle snpa = record { subnet = 1; snpa = snpa ∷ []; transit = 1; mtu = 512 }

abbrev pub on_second : (snpa : ℕ) → PortConfig
on_second snpa = record { subnet = 2; snpa = snpa ∷ []; transit = 1; mtu = 1024 }

abbrev pub host : (name address : List ℕ) → PortConfig → SystemConfiguration
host name address port =
    record { name = name; role = Host; addresses = address ∷ []; ports = port ∷ []; routes = []; settings = settings }

abbrev pub router : (name address : List ℕ) → List PortConfig → Route → SystemConfiguration
router name address ports route =
    record { name = name; role = Router; addresses = address ∷ []; ports = ports; routes = route ∷ []; settings = settings }

-- Hosts a and b are on the first local network, hosts c and d on the second, and each router has a route to the other's.
abbrev pub two_networks : List Event → Plan
two_networks events = record {
  version = 1;
  limits = record { age = 40; hold = 20; reuse = 60; skew = 0 };
  subnets = record { name = codes "lan1"; mtu = 1500 } ∷ record { name = codes "mid"; mtu = 512 } ∷ record { name = codes "lan2"; mtu = 1024 } ∷ [];
  systems =
      host (codes "a") (address_in 1 1) (on_first 1)
      ∷ host (codes "b") (address_in 1 2) (on_first 2)
      ∷ router (codes "r1") (address_in 1 0xff) (on_first 10 ∷ on_middle 11 ∷ [])
      (record { prefix = digits_of (area 2); port = 1; snpa = 12 ∷ []; title = address_in 2 0xff })
      ∷ router (codes "r2") (address_in 2 0xff) (on_middle 12 ∷ on_second 13 ∷ [])
      (record { prefix = digits_of (area 1); port = 0; snpa = 11 ∷ []; title = address_in 1 0xff })
      ∷ host (codes "c") (address_in 2 1) (on_second 3)
      ∷ host (codes "d") (address_in 2 2) (on_second 4)
      ∷ [];
  events = events;
}

-- ---- how numbers are picked

-- the generator's next state
unfoldable pub next : ℕ → ℕ
next state = (state * 6364136223846793005 + 1442695040888963407) % 2 ^ 64

-- what is drawn at a state of the generator, and the state that it leaves
abbrev pub Drawn : Type 0 → Type 0
Drawn A = ℕ → A × ℕ

-- a value for which nothing is picked
abbrev pub only : {A : Type 0} → A → Drawn A
only value state = (value, state)

infixl 10 ◌>>=◌
abbrev pub ◌>>=◌ : {A B : Type 0} → Drawn A → (A → Drawn B) → Drawn B
(first >>= others) state = others (first state).0 (first state).1

-- a number below n: the 31 high bits of the next state, modulo n
abbrev pub pick : ℕ → Drawn ℕ
pick n state = ((next state / 2 ^ 33) % n, next state)

-- ---- the events

-- the places of the hosts a, b, c and d among the systems
abbrev pub place_of : (number : ℕ) → ℕ
place_of number =
    if number == 0 then 0
    else if number == 1 then 1
    else if number == 2 then 4
    else 5

-- and their addresses
abbrev pub address_of : (number : ℕ) → List ℕ
address_of number =
    if number == 0 then address_in 1 1
    else if number == 1 then address_in 1 2
    else if number == 2 then address_in 2 1
    else address_in 2 2

-- a unit is asked for as it is where no word says another thing
abbrev pub usual_ask : Ask
usual_ask = record { life = 32; report = true; segment = true; options = [] }

-- A host sends a data unit to a host.
abbrev pub a_send : Drawn (Option Event)
a_send = do
  from ← pick 4
  to ← pick 4
  len ← pick 6000
  start ← pick 256
  only (Some (Send (place_of from) (address_of from) (address_of to) (Pattern len start) usual_ask))

-- A host asks a host for an echo.
abbrev pub an_echo : Drawn (Option Event)
an_echo = do
  from ← pick 4
  to ← pick 4
  len ← pick 600
  start ← pick 256
  only (Some (Echo (place_of from) (address_of from) (address_of to) (Pattern len start)))

-- One of the copies 1 to 2000 is given to a system.
abbrev pub a_delivery : Drawn (Option Event)
a_delivery = do
  copy ← pick 2000
  system ← pick 6
  only (Some (Deliver (1 + copy) system))

-- 1 to 5 copies are lost.
abbrev pub a_loss : Drawn (Option Event)
a_loss = do
  count ← pick 5
  only (Some (Lose (1 + count)))

-- 1 to 10 ticks pass.
abbrev pub some_ticks : Drawn (Option Event)
some_ticks = do
  count ← pick 10
  only (Some (Tick (1 + count)))

abbrev pub restart_of_one : Drawn (Option Event)
restart_of_one = do
  system ← pick 6
  only (Some (Restart system))

-- A system is restarted, once in eight times.
abbrev pub a_restart : Drawn (Option Event)
a_restart = do
  chance ← pick 8
  if chance == 0 then restart_of_one else only None

-- the event of a round of one of ten kinds, where it has one
unfoldable pub event_of : (kind : ℕ) → Drawn (Option Event)
event_of kind =
    if nat_lt kind 5 then a_send
    else if kind == 5 then an_echo
    else if kind == 6 then a_delivery
    else if kind == 7 then a_loss
    else if kind == 8 then some_ticks
    else a_restart

-- the event, where there is one, and then another
abbrev pub one_or_two : Option Event → Event → List Event
one_or_two None last = last ∷ []
one_or_two (Some event) last = event ∷ last ∷ []

-- A round: its event, and then 1 to 30 copies are given to their addressees.
unfoldable pub round : Drawn (List Event)
round = do
  kind ← pick 10
  event ← event_of kind
  count ← pick 30
  only (one_or_two event (Settle (1 + count)))

-- the events of so many rounds, one after the other
unfoldable pub rounds : ℕ → Drawn (List Event)
rounds zero = only []
rounds (suc count) = do
  first ← round
  others ← rounds count
  only (first ++ others)

-- Hellos are exchanged; then there are 300 rounds; then all that still waits is given, and buffers and holding times end.
abbrev pub storm_events : (seed : ℕ) → List Event
storm_events seed = Tick 1 ∷ Settle 40 ∷ (rounds 300 seed).0 ++ (Settle 100000 ∷ Tick 200 ∷ Settle 100000 ∷ [])

abbrev pub storm : (seed : ℕ) → Plan
storm seed = two_networks (storm_events seed)
