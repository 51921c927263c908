-- What routes there are after one was set, and after a prefix was removed.
use Rattle.std.proofs.Common.{◌≡◌, ◌∙◌, ℕ, not, false, List, [], ◌∷◌, ◌++◌, Option, Some, None, ap, inl, inr, refl, sym}
use Rattle.std.specs.List.{find, list_any}
use Rattle.std.specs.Option.{is_some}
use Rattle.std.specs.Str.{bytes_eq}
use Rattle.std.proofs.lemmas.Bool.{cases_Bool, true≢false}
use Rattle.std.proofs.lemmas.List.Folds.{find-append}
use Rattle.pdus.proofs.ClnpBase.Choices.{option_or-nothing}
use Rattle.pdus.proofs.ClnpBase.Filters.{AllByRecursion-filter}
use Rattle.pdus.proofs.ClnpBase.Found.{is_some-find}
use Rattle.pdus.proofs.ClnpBase.SameOctets.{same-itself, same_from}
use Rattle.system_tables.specs.declared.forwarding.route.Route.{Route}
use Rattle.system_tables.specs.Forwarding.Distinct.{AreDistinct, has_prefix}
use Rattle.system_tables.specs.Forwarding.Setting.{set_in, without}
use Rattle.system_tables.proofs.ForwardingFacts.Prefixes.{AreDistinct-push}

-- Other routes have the place of some: of one prefix there is this route now, or none, and of each other one the same.
pub record IsChangedAt (prefix : List ℕ) (now : Option Route) (routes changed : List Route) : Type 0 where
  pub distinct : AreDistinct changed
  pub found : find (has_prefix prefix) changed ≡ now
  pub others : (other : List ℕ) → bytes_eq prefix other ≡ false → find (has_prefix other) changed ≡ find (has_prefix other) routes

-- ---- without a prefix

pub find_own : (prefix : List ℕ) (routes : List Route) → find (has_prefix prefix) (without prefix routes) ≡ None
find_own prefix [] = refl
find_own prefix (first ∷ routes) =
    elim (cases_Bool (has_prefix prefix first)) [
      | inl own ↦ rw own (find_own prefix routes)
      | inr other ↦ rw (other, other) (find_own prefix routes)
    ]

pub find_other : (prefix other : List ℕ) (routes : List Route) → bytes_eq prefix other ≡ false
    → find (has_prefix other) (without prefix routes) ≡ find (has_prefix other) routes
find_other prefix other [] differ = refl
find_other prefix other (first ∷ routes) differ =
    let rest = find_other prefix other routes differ in
    elim (cases_Bool (has_prefix prefix first)) [
      | inl own ↦
          let foreign : has_prefix other first ≡ false = ap (λ p. bytes_eq p other) (same_from first.prefix prefix own) ∙ differ in
          rw (own, foreign) rest
      | inr kept ↦ elim (cases_Bool (has_prefix other first)) [ inl t ↦ rw (kept, t) refl | inr f ↦ rw (kept, f) rest ]
    ]

pub none_left : (prefix : List ℕ) (routes : List Route) → list_any (has_prefix prefix) (without prefix routes) ≡ false
none_left prefix routes = sym (is_some-find (has_prefix prefix) (without prefix routes)) ∙ ap is_some (find_own prefix routes)

pub AreDistinct-without : (prefix : List ℕ) (routes : List Route) → AreDistinct routes → AreDistinct (without prefix routes)
AreDistinct-without prefix [] distinct = tt
AreDistinct-without prefix (first ∷ routes) distinct =
    let rest = AreDistinct-without prefix routes distinct.1 in
    let Other : Route → Type 0 = λ other. has_prefix first.prefix other ≡ false in
    elim (cases_Bool (has_prefix prefix first)) [
      | inl own ↦ rw own rest
      | inr kept ↦
          rw kept
          (AllByRecursion-filter (λ route. not (has_prefix prefix route)) Other Other (λ route passes other. other) routes distinct.0, rest)
    ]

pub is_without : (prefix : List ℕ) (routes : List Route) → AreDistinct routes → IsChangedAt prefix None routes (without prefix routes)
is_without prefix routes distinct = record {
  distinct = AreDistinct-without prefix routes distinct;
  found = find_own prefix routes;
  others = λ other differ. find_other prefix other routes differ;
}

-- ---- with a route that was set

pub AreDistinct-set_in : (route : Route) (routes : List Route) → AreDistinct routes → AreDistinct (set_in route routes)
AreDistinct-set_in route routes distinct =
    AreDistinct-push (without route.prefix routes) route (AreDistinct-without route.prefix routes distinct) (none_left route.prefix routes)

pub find_set : (route : Route) (routes : List Route) → find (has_prefix route.prefix) (set_in route routes) ≡ Some route
find_set route routes = rw (find-append, find_own route.prefix routes, same-itself route.prefix) refl

pub find_other_set : (route : Route) (other : List ℕ) (routes : List Route) → bytes_eq route.prefix other ≡ false
    → find (has_prefix other) (set_in route routes) ≡ find (has_prefix other) routes
find_other_set route other routes differ =
    let kept = find_other route.prefix other routes differ in
    rw (find-append, differ) (option_or-nothing (find (has_prefix other) (without route.prefix routes)) ∙ kept)

pub is_set : (route : Route) (routes : List Route) → AreDistinct routes → IsChangedAt route.prefix (Some route) routes (set_in route routes)
is_set route routes distinct = record {
  distinct = AreDistinct-set_in route routes distinct;
  found = find_set route routes;
  others = λ other differ. find_other_set route other routes differ;
}

-- ---- where no route has the prefix

without_absent : (prefix : List ℕ) (routes : List Route) → list_any (has_prefix prefix) routes ≡ false → without prefix routes ≡ routes
without_absent prefix [] absent = refl
without_absent prefix (first ∷ routes) absent =
    elim (cases_Bool (has_prefix prefix first)) [
      | inl t ↦ absurd (true≢false (rw t at absent))
      | inr f ↦ rw f (ap (λ (rest : List Route). first ∷ rest) (without_absent prefix routes (rw f at absent)))
    ]

pub set_in_absent : (route : Route) (routes : List Route) → list_any (has_prefix route.prefix) routes ≡ false
    → set_in route routes ≡ routes ++ route ∷ []
set_in_absent route routes absent = ap (λ (rest : List Route). rest ++ route ∷ []) (without_absent route.prefix routes absent)
