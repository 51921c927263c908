-- Routes that are set, and prefixes that are removed.
use Rattle.std.specs.Prelude.{ℕ, not, List, [], ◌∷◌, ◌++◌, filter}
use Rattle.system_tables.specs.declared.forwarding.route.Route.{Route}
use Rattle.system_tables.specs.Forwarding.Distinct.{has_prefix}

-- the routes of other prefixes
abbrev pub without : (prefix : List ℕ) → List Route → List Route
without prefix routes = filter (λ route. not (has_prefix prefix route)) routes

-- the routes with this one in the place of that of its prefix
abbrev pub set_in : Route → List Route → List Route
set_in route routes = without route.prefix routes ++ route ∷ []
