-- What events change of what is declared: where the ports of systems are, for which prefixes routers have routes, and how far clocks
-- went on.
use Rattle.std.specs.Prelude.{◌≡◌, ℕ, zero, suc, ◌+◌, ◌≤◌, ◌==◌, ◌&&◌, ◌||◌, not, nat_eq, nat_lt, Bool, true, false, if◌then◌else◌, List, [], ◌∷◌, ◌++◌, map, filter, length, slice_get, Option, None, Some}
use Rattle.std.specs.List.{list_any}
use Rattle.std.specs.Cmp.Lexicographic.{pointwise}
use Rattle.std.specs.Str.{bytes_eq}
use Rattle.clnp_plan.specs.Configuration.{SystemConfiguration}
use Rattle.system_tables.specs.declared.forwarding.route.Route.{Route}
use Rattle.clnp_plan.specs.declared.config.PortConfig.{PortConfig}
use Rattle.clnp_plan.specs.declared.scenario_plan.event.Event.{Event}
use Rattle.clnp_plan.specs.declared.scenario_plan.event.Event.TheVariants as event
use Rattle.clnp_plan.specs.declared.scenario_plan.spot.Spot.{Spot}

-- the list with its element at a place changed
abbrev pub changed_at : {X : Type 0} → (X → X) → ℕ → List X → List X
changed_at change place [] = []
changed_at change zero (x ∷ xs) = change x ∷ xs
changed_at change (suc place) (x ∷ xs) = x ∷ changed_at change place xs

-- whether octets are among some
abbrev pub is_among : List ℕ → List (List ℕ) → Bool
is_among octets others = list_any (λ other. pointwise nat_eq other octets) others

-- no two of some clocks stand more than so many ticks apart
abbrev pub AreTogether : (skew : ℕ) → List ℕ → Type 0
AreTogether skew clocks =
    (first second a b : ℕ) → slice_get clocks first ≡ Some a → slice_get clocks second ≡ Some b → a ≤ b + skew

-- what the events so far leave
pub record Standing : Type 0 where
  -- of each port of each system: the subnetwork that it is on, and its address there
  pub spots : List Spot
  -- the prefixes of each system's routes
  pub prefixes : List (List (List ℕ))
  -- each system's clock, and how far two of them may stand apart
  pub clocks : List ℕ
  pub skew : ℕ

-- the ports of a system, the first of which has this number
abbrev pub spots_from : (system number : ℕ) → List PortConfig → List Spot
spots_from system number [] = []
spots_from system number (port ∷ ports) =
    record { system = system; number = number; subnet = port.subnet; snpa = port.snpa } ∷ spots_from system (number + 1) ports

-- those of systems, the first of which has this place
abbrev pub spots_of : (place : ℕ) → List SystemConfiguration → List Spot
spots_of place [] = []
spots_of place (system ∷ systems) = spots_from place 0 system.ports ++ spots_of (place + 1) systems

abbrev pub prefixes_of : SystemConfiguration → List (List ℕ)
prefixes_of system = map (λ (route : Route). route.prefix) system.routes

-- all clocks begin at 0
abbrev pub first_clocks : List SystemConfiguration → List ℕ
first_clocks systems = map (λ (system : SystemConfiguration). 0) systems

-- before the first event
abbrev pub standing_of : (skew : ℕ) → List SystemConfiguration → Standing
standing_of skew systems =
    record { spots = spots_of 0 systems; prefixes = map prefixes_of systems; clocks = first_clocks systems; skew = skew }

-- ---- what an event needs

-- whether it is the port of this number
abbrev pub is_port : (system number : ℕ) → Spot → Bool
is_port system number spot = (spot.system == system) && (spot.number == number)

-- whether it is another port of the system, on this subnetwork
abbrev pub is_second : (system number subnet : ℕ) → Spot → Bool
is_second system number subnet spot = (spot.system == system) && (not (spot.number == number) && (spot.subnet == subnet))

-- whether it is another port, of any system, with this address on this subnetwork
abbrev pub is_rival : (system number subnet : ℕ) (snpa : List ℕ) → Spot → Bool
is_rival system number subnet snpa spot =
    not (is_port system number spot) && ((spot.subnet == subnet) && pointwise nat_eq spot.snpa snpa)

-- whether routes of these prefixes may become those with this one: a router has at most 256
abbrev pub takes_prefix : (prefix : List ℕ) → Option (List (List ℕ)) → Bool
takes_prefix prefix None = false
takes_prefix prefix (Some known) = is_among prefix known || nat_lt (length known) 256

-- what an event leaves of clocks: all go on, or that of one system
abbrev pub clocks_after : Event → List ℕ → List ℕ
clocks_after (event.Tick count) clocks = map (λ clock. clock + count) clocks
clocks_after (event.TickSystem system count) clocks = changed_at (λ clock. clock + count) system clocks
clocks_after _ clocks = clocks

-- whether a clock, of a system that is there, stands more than so many ticks above one of some
abbrev pub is_ahead : (skew : ℕ) → Option ℕ → List ℕ → Bool
is_ahead skew None clocks = false
is_ahead skew (Some clock) clocks = list_any (λ other. nat_lt (other + skew) clock) clocks

-- whether so many ticks of one system alone would make it
abbrev pub runs_ahead : (system count : ℕ) → Standing → Bool
runs_ahead system count standing =
    is_ahead standing.skew (slice_get (clocks_after (event.TickSystem system count) standing.clocks) system)
    (clocks_after (event.TickSystem system count) standing.clocks)

-- What a system needs so that an event may come: no two of its ports are on one subnetwork, an address on a subnetwork is that of
-- one port, a router has at most 256 routes, and the clock of a system comes to stand no further than that above another one.
abbrev pub MayCome : Standing → Event → Type 0
MayCome standing (event.Port system number subnet snpa) =
    (list_any (is_second system number subnet) standing.spots ≡ false) × (list_any (is_rival system number subnet snpa) standing.spots ≡ false)
MayCome standing (event.Route system route) = takes_prefix route.prefix (slice_get standing.prefixes system) ≡ true
MayCome standing (event.TickSystem system count) = runs_ahead system count standing ≡ false
MayCome standing _ = Unit {0}

-- ---- what an event leaves

-- a port, at its new place where it is the one of this number
abbrev pub moved : (system number subnet : ℕ) (snpa : List ℕ) → Spot → Spot
moved system number subnet snpa spot = if is_port system number spot then record spot { subnet = subnet; snpa = snpa } else spot

-- prefixes with this one, which stays where it is there
abbrev pub with_prefix : (prefix : List ℕ) → List (List ℕ) → List (List ℕ)
with_prefix prefix known = if is_among prefix known then known else known ++ prefix ∷ []

-- prefixes without this one
abbrev pub without_prefix : (prefix : List ℕ) → List (List ℕ) → List (List ℕ)
without_prefix prefix known = filter (λ other. not (bytes_eq other prefix)) known

abbrev pub spots_after : Event → List Spot → List Spot
spots_after (event.Port system number subnet snpa) spots = map (moved system number subnet snpa) spots
spots_after _ spots = spots

abbrev pub prefixes_after : Event → List (List (List ℕ)) → List (List (List ℕ))
prefixes_after (event.Route system route) prefixes = changed_at (with_prefix route.prefix) system prefixes
prefixes_after (event.Unroute system prefix) prefixes = changed_at (without_prefix prefix) system prefixes
prefixes_after _ prefixes = prefixes

abbrev pub standing_after : Event → Standing → Standing
standing_after event standing =
    record {
      spots = spots_after event standing.spots;
      prefixes = prefixes_after event standing.prefixes;
      clocks = clocks_after event standing.clocks;
      skew = standing.skew;
    }

-- each event may come over what those before it leave
abbrev pub EachMayCome : Standing → List Event → Type 0
EachMayCome standing [] = Unit {0}
EachMayCome standing (event ∷ events) = MayCome standing event × EachMayCome (standing_after event standing) events
