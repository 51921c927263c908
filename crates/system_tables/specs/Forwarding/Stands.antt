-- For which list of routes the maps stand.
use Rattle.std.specs.Prelude.{◌≡◌, ℕ, List, length, Some, slice_get}
use Rattle.std.specs.BTreeMap.{BTreeMap, get}
use Rattle.std.specs.Cmp.Lexicographic.{slice_cmp}
use Rattle.std.specs.List.{find}
use Rattle.std.specs.Ordering.{nat_cmp}
use Rattle.system_tables.specs.declared.forwarding.route.Route.{Route}
use Rattle.system_tables.specs.declared.forwarding.routes.Routes.{Routes}
use Rattle.system_tables.specs.Forwarding.Distinct.{AreDistinct, has_prefix}

-- No two routes of the list have one prefix, and under each prefix the map of its length has the route of this prefix.
pub record Stands (routes : Routes) (list : List Route) : Type 0 where
  pub distinct : AreDistinct list
  pub found : (prefix : List ℕ) (map : BTreeMap (List ℕ) Route) → slice_get routes.by_length (length prefix) ≡ Some map
      → get (slice_cmp nat_cmp) map prefix ≡ find (has_prefix prefix) list
