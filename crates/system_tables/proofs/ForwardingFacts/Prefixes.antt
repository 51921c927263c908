-- Which prefix a route has, and which route has a prefix.
use Rattle.std.proofs.Common.{◌≡◌, ◌∙◌, ℕ, zero, suc, ◌<◌, Bool, true, false, List, [], ◌∷◌, ◌++◌, Option, Some, None, ap, arith, get_or, inl, inr, length, subst, sym, take, Contains}
use Rattle.std.specs.Prelude.{slice_get}
use Rattle.std.specs.List.{find, list_any, position_from}
use Rattle.std.specs.Option.{is_some}
use Rattle.std.proofs.lemmas.Bool.{cases_Bool, cases_order, true≢false}
use Rattle.std.proofs.lemmas.Option.{none-some, same_Some, slice_get_within}
use Rattle.pdus.proofs.ClnpBase.SameOctets.{other-back, same_from, same_from_equal}
use Rattle.std.proofs.lemmas.Grind.{common_steps}
use Rattle.std.proofs.lemmas.List.{length-take}
use Rattle.pdus.proofs.ClnpBase.Filters.{find-no_position, find-position}
use Rattle.pdus.proofs.ClnpBase.Found.{contains_any, find_any, is_some-find}
use Rattle.pdus.proofs.ClnpBase.Lists.{AllByRecursion-contains, AllByRecursion-push, AllByRecursion-slice_get}
use Rattle.system_tables.specs.declared.forwarding.route.Route.{Route}
use Rattle.system_tables.specs.Forwarding.Distinct.{AreDistinct, IsTwice, has_prefix}

-- a route that is found
pub found_within : (test : Route → Bool) (routes : List Route) (route : Route) → find test routes ≡ Some route
    → Contains routes route × (test route ≡ true)
found_within test routes route e =
    let any : list_any test routes ≡ true = sym (is_some-find test routes) ∙ ap is_some e in
    let found = find_any test routes any in
    let same : found.0 ≡ route = same_Some found.0 route (sym found.1.is ∙ e) in
    subst (λ r. Contains routes r × (test r ≡ true)) same (found.1.within, found.1.passes)

-- where none is found, none passes
pub none_passes : (test : Route → Bool) (routes : List Route) (route : Route) → find test routes ≡ None → Contains routes route
    → test route ≡ true → ⊥
none_passes test routes route none within passes =
    true≢false (sym (contains_any test routes route within passes) ∙ sym (is_some-find test routes) ∙ ap is_some none)

-- a route is found by its prefix
pub found_by_prefix : (routes : List Route) (route : Route) → AreDistinct routes → Contains routes route
    → find (has_prefix route.prefix) routes ≡ Some route
found_by_prefix routes route distinct within = at routes route within.0 distinct within.1 within.2
  where
    at : (routes : List Route) (route : Route) (i : ℕ) → AreDistinct routes → i < length routes → get_or routes i route ≡ route
        → find (has_prefix route.prefix) routes ≡ Some route
    at [] route i distinct below is = absurd (omega arith)
    at (first ∷ routes) route zero distinct below is =
        let own : has_prefix route.prefix first ≡ true = same_from_equal first.prefix route.prefix (ap (λ r. r.prefix) is) in
        rw own (ap (λ r. Some r) is)
    at (first ∷ routes) route (suc i) distinct below is =
        let differ : has_prefix first.prefix route ≡ false =
        AllByRecursion-contains (λ r. has_prefix first.prefix r ≡ false) routes route (i, omega arith, is) distinct.0 in
        rw (other-back route.prefix first.prefix differ) (at routes route i distinct.1 (omega arith) is)

-- routes of different prefixes and one of another prefix
pub AreDistinct-push : (routes : List Route) (route : Route) → AreDistinct routes → list_any (has_prefix route.prefix) routes ≡ false
    → AreDistinct (routes ++ route ∷ [])
AreDistinct-push [] route distinct other = (tt, tt)
AreDistinct-push (first ∷ routes) route distinct other =
    elim (cases_Bool (has_prefix route.prefix first)) [
      | inl t ↦ absurd (true≢false (rw t at other))
      | inr f ↦ (
        AllByRecursion-push (λ r. has_prefix first.prefix r ≡ false) routes route distinct.0 (other-back first.prefix route.prefix f),
        AreDistinct-push routes route distinct.1 (rw f at other),
      )
    ]

-- ---- the routes before a place

slice_get_front : (routes : List Route) (n i : ℕ) (route : Route) → slice_get (take n routes) i ≡ Some route → slice_get routes i ≡ Some route
slice_get_front [] n i route e = absurd (none-some route (grind (arith, common_steps, e)))
slice_get_front (first ∷ routes) zero i route e = absurd (none-some route e)
slice_get_front (first ∷ routes) (suc n) zero route e = e
slice_get_front (first ∷ routes) (suc n) (suc i) route e = slice_get_front routes n i route e

-- a route of a prefix that is there has a place
pub place_is_there : (routes : List Route) (prefix : List ℕ) (found : Option ℕ) (there : Bool) → there ≡ true
    → there ≡ list_any (has_prefix prefix) routes → found ≡ position_from (has_prefix prefix) 0 routes → found ≡ None → ⊥
place_is_there routes prefix found there holds is at none =
    let nowhere : list_any (has_prefix prefix) routes ≡ false =
    sym (is_some-find (has_prefix prefix) routes) ∙ ap is_some (find-no_position (has_prefix prefix) 0 routes (sym at ∙ none)) in
    true≢false (sym holds ∙ is ∙ nowhere)

-- the place of a first route of a prefix
pub IsTwice-at : (routes : List Route) (route : Route) (second : ℕ) (found : Option ℕ) → slice_get routes second ≡ Some route
    → AreDistinct (take second routes) → found ≡ position_from (has_prefix route.prefix) 0 (take second routes)
    → (first : ℕ) → found ≡ Some first → IsTwice routes first second
IsTwice-at routes route second found at distinct is first e =
    let there = find-position (has_prefix route.prefix) 0 (take second routes) first (sym is ∙ e) in
    let before : there.0 < length (take second routes) = slice_get_within (take second routes) there.0 there.1 there.3 in
    let same : there.0 ≡ first = let s = there.2 in omega (arith, s) in
    record {
      order = omega (arith, before, length-take second routes, same);
      route = there.1;
      again = route;
      at_first = slice_get_front routes second first there.1 (ap (slice_get (take second routes)) (sym same) ∙ there.3);
      at_second = at;
      same = same_from there.1.prefix route.prefix there.5;
      distinct = distinct;
    }

-- two routes of one prefix stand in no list of different ones
differ_at : (routes : List Route) (i j : ℕ) (a b : Route) → AreDistinct routes → i < j → slice_get routes i ≡ Some a
    → slice_get routes j ≡ Some b → a.prefix ≡ b.prefix → ⊥
differ_at [] i j a b distinct before at_i at_j same = none-some a at_i
differ_at (first ∷ routes) i zero a b distinct before at_i at_j same = absurd (omega arith)
differ_at (first ∷ routes) zero (suc j) a b distinct before at_i at_j same =
    let differ : has_prefix first.prefix b ≡ false = AllByRecursion-slice_get (λ r. has_prefix first.prefix r ≡ false) routes j b at_j distinct.0 in
    let own : first ≡ a = same_Some first a at_i in
    true≢false (sym (same_from_equal b.prefix first.prefix (sym same ∙ ap (λ r. r.prefix) (sym own))) ∙ differ)
differ_at (first ∷ routes) (suc i) (suc j) a b distinct before at_i at_j same =
    differ_at routes i j a b distinct.1 (omega arith) at_i at_j same

pub twice_none : (routes : List Route) (first second : ℕ) → IsTwice routes first second → AreDistinct routes → ⊥
twice_none routes first second twice distinct =
    differ_at routes first second twice.route twice.again distinct twice.order twice.at_first twice.at_second twice.same

slice_get-take : (routes : List Route) (n i : ℕ) (route : Route) → i < n → slice_get routes i ≡ Some route
    → slice_get (take n routes) i ≡ Some route
slice_get-take [] n i route below e = absurd (none-some route e)
slice_get-take (first ∷ routes) zero i route below e = absurd (omega arith)
slice_get-take (first ∷ routes) (suc n) zero route below e = e
slice_get-take (first ∷ routes) (suc n) (suc i) route below e = slice_get-take routes n i route (omega arith) e

-- no second place is before another
not_before : (routes : List Route) (first second first_again second_again : ℕ) → IsTwice routes first second
    → IsTwice routes first_again second_again → second < second_again → ⊥
not_before routes first second first_again second_again one two before =
    differ_at (take second_again routes) first second one.route one.again two.distinct one.order
    (slice_get-take routes second_again first one.route (let o = one.order in omega arith) one.at_first)
    (slice_get-take routes second_again second one.again before one.at_second) one.same

-- of one second place, no first is before another
not_earlier : (routes : List Route) (first second first_again second_again : ℕ) → IsTwice routes first second
    → IsTwice routes first_again second_again → second ≡ second_again → first < first_again → ⊥
not_earlier routes first second first_again second_again one two at before =
    let again : one.again ≡ two.again = same_Some one.again two.again (sym one.at_second ∙ ap (slice_get routes) at ∙ two.at_second) in
    differ_at (take second routes) first first_again one.route two.route one.distinct before
    (slice_get-take routes second first one.route one.order one.at_first)
    (slice_get-take routes second first_again two.route (let o = two.order in omega (arith, at)) two.at_first)
    (one.same ∙ ap (λ r. r.prefix) again ∙ sym two.same)

pub twice_one : (routes : List Route) (first second first_again second_again : ℕ) → IsTwice routes first second
    → IsTwice routes first_again second_again → (first ≡ first_again) × (second ≡ second_again)
twice_one routes first second first_again second_again one two =
    let seconds : second ≡ second_again =
    elim (cases_order second second_again) [
      | inl same ↦ same
      | inr (inl before) ↦ absurd (not_before routes first second first_again second_again one two before)
      | inr (inr after) ↦ absurd (not_before routes first_again second_again first second two one after)
    ] in (
      (elim (cases_order first first_again) [
        | inl same ↦ same
        | inr (inl before) ↦ absurd (not_earlier routes first second first_again second_again one two seconds before)
        | inr (inr after) ↦ absurd (not_earlier routes first_again second_again first second two one (sym seconds) after)
      ]),
      seconds,
    )
