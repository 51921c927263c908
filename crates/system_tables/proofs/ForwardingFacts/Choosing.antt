-- The route with the most digits among those that cover an address: that it is one of them and the only one.
use Rattle.std.proofs.Common.{◌≡◌, ◌∙◌, ℕ, ◌<◌, ◌≤◌, Bool, true, false, zero, suc, List, [], ◌∷◌, Option, Some, None, ap, arith, get_or, inl, inr, length, refl, subst, sym, take, Contains}
use Rattle.std.specs.Prelude.{filter, nat_lt}
use Rattle.std.specs.List.{AllByRecursion, find, list_any}
use Rattle.std.proofs.lemmas.Bool.{cases_Bool, cases_lt, ltb-false, ltb-true, true≢false}
use Rattle.std.proofs.lemmas.List.{length-take, length-take-le}
use Rattle.std.proofs.lemmas.Option.{get_or_from_slice_get, none-some, same_Some, slice_get_within}
use Rattle.pdus.proofs.ClnpBase.Found.{contains_any}
use Rattle.pdus.proofs.ClnpBase.Lists.{AllByRecursion-contains, AllByRecursion-from_places, AllByRecursion-implies}
use Rattle.pdus.specs.Nsap.Prefix.{digits_of}
use Rattle.system_tables.specs.declared.forwarding.route.Route.{Route}
use Rattle.system_tables.specs.Forwarding.Distinct.{AreDistinct, has_prefix}
use Rattle.system_tables.specs.Forwarding.Longest.{IsLongest, is_covering, longer, longest, most_digits}
use Rattle.pdus.proofs.ClnpBase.SameOctets.{same_from, same_from_equal}
use Rattle.system_tables.proofs.ForwardingFacts.Prefixes.{found_by_prefix, found_within, none_passes}

-- ---- the most digits

abbrev NoLonger : Route → Route → Type 0
NoLonger route other = length other.prefix ≤ length route.prefix

record IsMost (routes : List Route) (route : Route) : Type 0 where
  pub within : Contains routes route
  pub most : AllByRecursion (NoLonger route) routes

none_of : (routes : List Route) → most_digits routes ≡ None → routes ≡ []
none_of [] e = refl
none_of (route ∷ routes) e = absurd (none-some (longer route (most_digits routes)) (sym e))

nothing_longer : (route : Route) (routes : List Route) → routes ≡ [] → AllByRecursion (NoLonger route) (route ∷ routes)
nothing_longer route [] e = (omega arith, tt)
nothing_longer route (other ∷ routes) e = absurd (cc)

most_with : (first : Route) (routes : List Route) (later : Option Route) → (later ≡ None → routes ≡ [])
    → ((other : Route) → later ≡ Some other → IsMost routes other) → IsMost (first ∷ routes) (longer first later)
most_with first routes None nothing rest = record {
  within = (0, omega arith, refl);
  most = nothing_longer first routes (nothing refl);
}
most_with first routes (Some other) nothing rest =
    let behind = rest other refl in
    elim (cases_Bool (nat_lt (length first.prefix) (length other.prefix))) [
      | inl t ↦ rw t
          (record {
            within = (suc behind.within.0, (let below : behind.within.0 < length routes = behind.within.1 in omega arith), behind.within.2);
            most = (let less = ltb-true _ _ t in omega arith, behind.most);
          })
      | inr f ↦ rw f
          (record {
            within = (0, omega arith, refl);
            most = (
              omega arith,
              AllByRecursion-implies (NoLonger other) (NoLonger first) (λ r h. let less = ltb-false _ _ f in omega arith) routes behind.most,
            );
          })
    ]

most : (routes : List Route) (route : Route) → most_digits routes ≡ Some route → IsMost routes route
most [] route e = absurd (none-some route e)
most (first ∷ routes) route e =
    let all = most_with first routes (most_digits routes) (none_of routes) (most routes) in
    subst (IsMost (first ∷ routes)) (same_Some _ route e) all

-- ---- the longest that covers

behind : (first : Route) (routes : List Route) {route : Route} {P : Type 0} → Contains routes route × P
    → Contains (first ∷ routes) route × P
behind first routes h = ((suc h.0.0, (let below : h.0.0 < length routes = h.0.1 in omega arith), h.0.2), h.1)

-- of the routes that pass a test
kept_within : (test : Route → Bool) (routes : List Route) (route : Route) → Contains (filter test routes) route
    → Contains routes route × (test route ≡ true)
kept_within test routes route within = at routes within.0 within.1 within.2
  where
    at : (routes : List Route) (i : ℕ) → i < length (filter test routes) → get_or (filter test routes) i route ≡ route
        → Contains routes route × (test route ≡ true)
    at [] i below is = absurd (omega arith)
    at (first ∷ routes) zero below is =
        elim (cases_Bool (test first)) [
          | inl t ↦
              let same : first ≡ route = rw t at is in
              subst (λ r. Contains (first ∷ routes) r × (test r ≡ true)) same ((0, omega arith, refl), t)
          | inr f ↦ behind first routes (at routes zero (rw f at below) (rw f at is))
        ]
    at (first ∷ routes) (suc i) below is =
        elim (cases_Bool (test first)) [
          | inl t ↦ let less = rw t at below in behind first routes (at routes i (omega (arith, less)) (rw t at is))
          | inr f ↦ behind first routes (at routes (suc i) (rw f at below) (rw f at is))
        ]

kept_all : (test : Route → Bool) (P : Route → Type 0) (routes : List Route) → AllByRecursion P (filter test routes)
    → AllByRecursion (λ r. test r ≡ true → P r) routes
kept_all test P [] all = tt
kept_all test P (first ∷ routes) all =
    elim (cases_Bool (test first)) [
      | inl t ↦ let both = rw t at all in (λ h. both.0, kept_all test P routes both.1)
      | inr f ↦ (λ h. absurd (true≢false (sym h ∙ f)), kept_all test P routes (rw f at all))
    ]

-- what is chosen is the longest
pub longest_is : (address : List ℕ) (routes : List Route) (route : Route) → longest address routes ≡ Some route
    → IsLongest address routes route
longest_is address routes route e =
    let chosen = most (filter (is_covering address) routes) route e in
    let kept = kept_within (is_covering address) routes route chosen.within in
    record {
      within = kept.0;
      covers = kept.1;
      most = kept_all (is_covering address) (NoLonger route) routes chosen.most;
    }

-- a prefix that covers an address is the beginning of its digits
pub covering_is : (address : List ℕ) (route : Route) → is_covering address route ≡ true
    → (route.prefix ≡ take (length route.prefix) (digits_of address)) × (length route.prefix ≤ length (digits_of address))
covering_is address route e =
    let same = same_from route.prefix (take (length route.prefix) (digits_of address)) e in
    (same, let size = ap length same in omega (arith, size, length-take (length route.prefix) (digits_of address)))

pub covering_from : (address : List ℕ) (route : Route) (n : ℕ) → n ≤ length (digits_of address)
    → has_prefix (take n (digits_of address)) route ≡ true → (is_covering address route ≡ true) × (length route.prefix ≡ n)
covering_from address route n within e =
    let same = same_from route.prefix (take n (digits_of address)) e in
    let size : length route.prefix ≡ n = ap length same ∙ length-take-le n (digits_of address) within in
    (same_from_equal route.prefix (take (length route.prefix) (digits_of address)) (same ∙ ap (λ k. take k (digits_of address)) (sym size)), size)

-- where prefixes differ, one route alone is the longest
pub longest_one : (address : List ℕ) (routes : List Route) (a b : Route) → AreDistinct routes → IsLongest address routes a
    → IsLongest address routes b → a ≡ b
longest_one address routes a b distinct one two =
    let a_most = AllByRecursion-contains _ routes b two.within one.most two.covers in
    let b_most = AllByRecursion-contains _ routes a one.within two.most one.covers in
    let sizes : length a.prefix ≡ length b.prefix = omega (arith, a_most, b_most) in
    let same : a.prefix ≡ b.prefix =
    (covering_is address a one.covers).0 ∙ ap (λ k. take k (digits_of address)) sizes ∙ sym (covering_is address b two.covers).0 in
    same_Some a b
    (sym (found_by_prefix routes a distinct one.within)
    ∙ ap (λ p. find (has_prefix p) routes) same
    ∙ found_by_prefix routes b distinct two.within)

-- nothing is chosen where nothing covers
none_passing : (test : Route → Bool) (routes : List Route) → filter test routes ≡ [] → list_any test routes ≡ false
none_passing test [] e = refl
none_passing test (first ∷ routes) e =
    elim (cases_Bool (test first)) [
      | inl t ↦ let no = rw t at e in absurd (cc no)
      | inr f ↦ rw f (none_passing test routes (rw f at e))
    ]

passing_none : (test : Route → Bool) (routes : List Route) → list_any test routes ≡ false → filter test routes ≡ []
passing_none test [] e = refl
passing_none test (first ∷ routes) e =
    elim (cases_Bool (test first)) [
      | inl t ↦ absurd (true≢false (rw t at e))
      | inr f ↦ rw f (passing_none test routes (rw f at e))
    ]

pub covers_none : (address : List ℕ) (routes : List Route)
    → (longest address routes ≡ None → list_any (is_covering address) routes ≡ false)
    × (list_any (is_covering address) routes ≡ false → longest address routes ≡ None)
covers_none address routes = (
  λ none. none_passing (is_covering address) routes (none_of (filter (is_covering address) routes) none),
  λ none. ap most_digits (passing_none (is_covering address) routes none),
)

longest_none : (address : List ℕ) (routes : List Route) → longest address routes ≡ None
    → (route : Route) → Contains routes route → is_covering address route ≡ true → ⊥
longest_none address routes none route within covers =
    true≢false (sym (contains_any (is_covering address) routes route within covers) ∙ (covers_none address routes).0 none)

-- the longest is chosen
pub longest_from : (address : List ℕ) (routes : List Route) (route : Route) → AreDistinct routes → IsLongest address routes route
    → longest address routes ≡ Some route
longest_from address routes route distinct is = by_answer (longest address routes) refl
  where
    by_answer : (answer : Option Route) → longest address routes ≡ answer → longest address routes ≡ Some route
    by_answer None e = absurd (longest_none address routes e route is.within is.covers)
    by_answer (Some other) e =
        e ∙ ap (λ r. Some r) (longest_one address routes other route distinct (longest_is address routes other e) is)

-- ---- looking through the lengths

-- no route has the prefix of this length
abbrev pub NoneAt : List ℕ → List Route → ℕ → Type 0
NoneAt address routes n = find (has_prefix (take n (digits_of address))) routes ≡ None

-- a route whose prefix is longer isn't there
not_longer : (address : List ℕ) (routes : List Route) (n : ℕ) (other : Route)
    → ((k : ℕ) → n < k → k ≤ length (digits_of address) → NoneAt address routes k) → Contains routes other
    → is_covering address other ≡ true → length other.prefix ≤ n
not_longer address routes n other none within covers =
    let beginning = covering_is address other covers in
    elim (cases_lt n (length other.prefix)) [
      | inl longer ↦
          absurd (none_passes (has_prefix (take (length other.prefix) (digits_of address))) routes other
          (none (length other.prefix) longer beginning.1) within
          (same_from_equal other.prefix (take (length other.prefix) (digits_of address)) beginning.0))
      | inr most ↦ most
    ]

-- the first length at which a route is found
pub longest_at : (address : List ℕ) (routes : List Route) (n : ℕ) (route : Route) → AreDistinct routes → n ≤ length (digits_of address)
    → ((k : ℕ) → n < k → k ≤ length (digits_of address) → NoneAt address routes k)
    → find (has_prefix (take n (digits_of address))) routes ≡ Some route → longest address routes ≡ Some route
longest_at address routes n route distinct within none e =
    let found = found_within (has_prefix (take n (digits_of address))) routes route e in
    let covers = covering_from address route n within found.1 in
    longest_from address routes route distinct
    (record {
      within = found.0;
      covers = covers.0;
      most = AllByRecursion-from_places _ routes (λ i other there covers_other.
          let most = not_longer address routes n other none (i, slice_get_within routes i other there, get_or_from_slice_get routes i other other there) covers_other in
          omega (arith, covers.1, most));
    })

-- no length at which a route is found
pub longest_nowhere : (address : List ℕ) (routes : List Route)
    → ((k : ℕ) → k ≤ length (digits_of address) → NoneAt address routes k) → longest address routes ≡ None
longest_nowhere address routes none = by_answer (longest address routes) refl
  where
    by_answer : (answer : Option Route) → longest address routes ≡ answer → longest address routes ≡ None
    by_answer None e = e
    by_answer (Some other) e =
        let is = longest_is address routes other e in
        let beginning = covering_is address other is.covers in
        absurd (none_passes (has_prefix (take (length other.prefix) (digits_of address))) routes other
        (none (length other.prefix) beginning.1) is.within
        (same_from_equal other.prefix (take (length other.prefix) (digits_of address)) beginning.0))
