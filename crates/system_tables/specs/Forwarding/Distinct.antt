-- Routes of different prefixes.
use Rattle.std.specs.Prelude.{◌≡◌, ℕ, ◌<◌, Bool, false, List, [], ◌∷◌, Some, slice_get, take}
use Rattle.std.specs.List.{AllByRecursion}
use Rattle.std.specs.Str.{bytes_eq}
use Rattle.system_tables.specs.declared.forwarding.route.Route.{Route}

abbrev pub has_prefix : List ℕ → Route → Bool
has_prefix prefix route = bytes_eq route.prefix prefix

-- no two routes have one prefix
abbrev pub AreDistinct : List Route → Type 0
AreDistinct [] = Unit {0}
AreDistinct (route ∷ later) = AllByRecursion (λ other. has_prefix route.prefix other ≡ false) later × AreDistinct later

-- The routes at two places have one prefix, the second of them being the first whose prefix a route before it has.
pub record IsTwice (routes : List Route) (first second : ℕ) : Type 0 where
  pub order : first < second
  pub route : Route
  pub again : Route
  pub at_first : slice_get routes first ≡ Some route
  pub at_second : slice_get routes second ≡ Some again
  pub same : route.prefix ≡ again.prefix
  pub distinct : AreDistinct (take second routes)
