-- Ports without a gap: their numbers are those below how many there are.
use Rattle.std.proofs.Common.{◌≡◌, ℕ, zero, suc, ◌+◌, ◌<◌, ◌≤◌, ◌==◌, ◌||◌, Bool, true, false, nat_lt, List, [], ◌∷◌, map, take, drop, length, get_or, inl, inr, sym, ap, ◌∙◌, arith}
use Rattle.std.specs.List.{AllByRecursion, insert, list_any, range_with_len}
use Rattle.std.proofs.lemmas.Bool.{cases_Bool, cases_order, eqb-true, eq-eqb, ne_eqb, ltb-true, lt-ltb, le-ltb, or_cases, or_left, or_right, true≢false}
use Rattle.std.proofs.lemmas.List.{length-map, take-append-drop}
use Rattle.std.proofs.lemmas.List.Folds.{list_any-append}
use Rattle.std.proofs.lemmas.List.FromFn.{get_or-range_with_len, length-range_with_len}
use Rattle.std.proofs.lemmas.List.Sums.{AllPass-from_list_all}
use Rattle.clnp_plan.proofs.ClnpBase.Lists.{AllByRecursion-implies}
use Rattle.clnp_plan.specs.SystemTables.declared.forwarding.route.Route.{Route}
use Rattle.scenario.specs.Declarations.{NumberedPort, has_number, have_no_gap}

-- a number that is there stays there where a port comes in

either_stays : (a b c : Bool) → (a || b) ≡ true → (a || (c || b)) ≡ true
either_stays a b c h = elim (or_cases a b h) [ inl t ↦ or_left a (c || b) t | inr t ↦ or_right a (c || b) (or_right c b t) ]

pub number_stays : (numbered : NumberedPort) (k : ℕ) (ports : List NumberedPort) (number : ℕ) → has_number ports number ≡ true
    → has_number (insert ports k numbered) number ≡ true
number_stays numbered k ports number h =
    let is : NumberedPort → Bool = λ (n : NumberedPort). n.number == number in
    let parts : list_any is ports ≡ (list_any is (take k ports) || list_any is (drop k ports)) =
    ap (list_any is) (sym (take-append-drop k ports)) ∙ list_any-append is (take k ports) (drop k ports) in
    list_any-append is (take k ports) (numbered ∷ drop k ports)
    ∙ either_stays (list_any is (take k ports)) (list_any is (drop k ports)) (is numbered) (sym parts ∙ h)

-- how many ports pass a test

abbrev one_if : Bool → ℕ
one_if true = 1
one_if false = 0

abbrev how_many : (NumberedPort → Bool) → List NumberedPort → ℕ
how_many test [] = 0
how_many test (port ∷ ports) = one_if (test port) + how_many test ports

abbrev is_below : ℕ → NumberedPort → Bool
is_below n numbered = nat_lt numbered.number n

abbrev is_numbered : ℕ → NumberedPort → Bool
is_numbered n numbered = numbered.number == n

one_more : (a n : ℕ) → one_if (nat_lt a n) + one_if (a == n) ≤ one_if (nat_lt a (suc n))
one_more a n =
    elim (cases_order a n) [
      | inl same ↦ rw (le-ltb a n (omega (arith, same)), eq-eqb a n same, lt-ltb a (suc n) (omega (arith, same))) (omega arith)
      | inr (inl before) ↦ rw (lt-ltb a n before, ne_eqb a n (λ e. omega (arith, before, e)), lt-ltb a (suc n) (omega (arith, before))) (omega arith)
      | inr (inr after) ↦ rw (le-ltb a n (omega (arith, after)), ne_eqb a n (λ e. omega (arith, after, e)), le-ltb a (suc n) after) (omega arith)
    ]

more_below : (n : ℕ) (ports : List NumberedPort) → how_many (is_below n) ports + how_many (is_numbered n) ports ≤ how_many (is_below (suc n)) ports
more_below n [] = omega arith
more_below n (port ∷ ports) = omega (arith, one_more port.number n, more_below n ports)

one_at_least : (test : NumberedPort → Bool) (ports : List NumberedPort) → list_any test ports ≡ true → 1 ≤ how_many test ports
one_at_least test [] h = absurd (true≢false (sym h))
one_at_least test (port ∷ ports) h =
    elim (or_cases (test port) (list_any test ports) h) [
      | inl t ↦ rw t (omega arith)
      | inr t ↦ let more = one_at_least test ports t in omega (arith, more)
    ]

-- where all numbers below n are there, as many ports have numbers below n
many_below : (ports : List NumberedPort) (n : ℕ) → ((k : ℕ) → k < n → has_number ports k ≡ true) → n ≤ how_many (is_below n) ports
many_below ports zero h = omega arith
many_below ports (suc n) h =
    let fewer = many_below ports n (λ k below. h k (omega (arith, below))) in
    let own = one_at_least (is_numbered n) ports (h n (omega arith)) in
    omega (arith, fewer, own, more_below n ports)

few : (test : NumberedPort → Bool) (ports : List NumberedPort) → how_many test ports ≤ length ports
few test [] = omega arith
few test (port ∷ ports) =
    elim (cases_Bool (test port)) [ inl t ↦ rw t (omega (arith, few test ports)) | inr f ↦ rw f (omega (arith, few test ports)) ]

-- where as many ports as there are have numbers below n, all have
all_below : (n number : ℕ) (ports : List NumberedPort) → length ports ≤ how_many (is_below n) ports → has_number ports number ≡ true → number < n
all_below n number [] full h = absurd (true≢false (sym h))
all_below n number (port ∷ ports) full h =
    elim (cases_Bool (is_below n port)) [
      | inl t ↦
          elim (or_cases (port.number == number) (has_number ports number) h) [
            | inl own ↦ let lower = ltb-true port.number n t in omega (arith, lower, eqb-true port.number number own)
            | inr other ↦ let full = rw t at full in all_below n number ports (omega (arith, full)) other
          ]
      | inr f ↦ let full = rw f at full in absurd (omega (arith, full, few (is_below n) ports))
    ]

each_below : (ports : List NumberedPort) → have_no_gap ports ≡ true → (k : ℕ) → k < length ports → has_number ports k ≡ true
each_below ports no_gap k below =
    let length_is = length-range_with_len 0 (length ports) in
    let passes = AllPass-from_list_all (has_number ports) (range_with_len 0 (length ports)) no_gap k 0 (omega (arith, below, length_is)) in
    let here : get_or (range_with_len 0 (length ports)) k 0 ≡ k = get_or-range_with_len 0 (length ports) k 0 below ∙ omega arith in
    rw here at passes

number_below : (ports : List NumberedPort) (number : ℕ) → have_no_gap ports ≡ true → has_number ports number ≡ true → number < length ports
number_below ports number no_gap h =
    all_below (length ports) number ports (many_below ports (length ports) (each_below ports no_gap)) h

-- each route leads out of one of the ports
abbrev pub LeadOut : List NumberedPort → List Route → Type 0
LeadOut ports routes = AllByRecursion (λ (route : Route). has_number ports route.port ≡ true) routes

pub lead_on : (numbered : NumberedPort) (k : ℕ) (ports : List NumberedPort) (routes : List Route) → LeadOut ports routes → LeadOut (insert ports k numbered) routes
lead_on numbered k ports =
    AllByRecursion-implies (λ (route : Route). has_number ports route.port ≡ true) (λ (route : Route). has_number (insert ports k numbered) route.port ≡ true)
    (λ route. number_stays numbered k ports route.port)

pub lead_below : (ports : List NumberedPort) (routes : List Route) → have_no_gap ports ≡ true → LeadOut ports routes
    → AllByRecursion (λ (route : Route). route.port < length (map (λ (numbered : NumberedPort). numbered.port) ports)) routes
lead_below ports routes no_gap =
    AllByRecursion-implies (λ (route : Route). has_number ports route.port ≡ true)
    (λ (route : Route). route.port < length (map (λ (numbered : NumberedPort). numbered.port) ports))
    (λ route there. rw (length-map ports (λ (numbered : NumberedPort). numbered.port)) (number_below ports route.port no_gap there)) routes
