-- Which route a destination gets (ISO/IEC 8473, section 6.5): of those whose prefix covers its address, the one with the most
-- digits.
use Rattle.std.specs.Prelude.{◌≡◌, ℕ, ◌≤◌, nat_lt, Bool, true, if◌then◌else◌, List, [], ◌∷◌, length, filter, Option, None, Some}
use Rattle.std.specs.List.{AllByRecursion, Contains}
use Rattle.pdus.specs.Nsap.Prefix.{covers}
use Rattle.system_tables.specs.declared.forwarding.route.Route.{Route}

abbrev pub is_covering : List ℕ → Route → Bool
is_covering address route = covers route.prefix address

-- the longer one of a route and another, if there is another
abbrev pub longer : Route → Option Route → Route
longer route None = route
longer route (Some other) = if nat_lt (length route.prefix) (length other.prefix) then other else route

-- the route with the most digits
abbrev pub most_digits : List Route → Option Route
most_digits [] = None
most_digits (route ∷ others) = Some (longer route (most_digits others))

-- the route with the most digits among those that cover the address
abbrev pub longest : List ℕ → List Route → Option Route
longest address routes = most_digits (filter (is_covering address) routes)

-- The route is one of these and covers the address, and none of them that covers it has more digits.
pub record IsLongest (address : List ℕ) (routes : List Route) (route : Route) : Type 0 where
  pub within : Contains routes route
  pub covers : is_covering address route ≡ true
  pub most : AllByRecursion (λ other. is_covering address other ≡ true → length other.prefix ≤ length route.prefix) routes
