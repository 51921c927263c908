-- Consecutive numbers, and what is made of each of them.
use Rattle.std.proofs.Common.{◌≡◌, ℕ, zero, suc, ◌+◌, ◌<◌, ◌≤◌, Bool, true, inl, inr, List, ◌∷◌, ◌++◌, map, take, drop, get_or, length, ap, sym, ◌∙◌, refl, arith}
use Rattle.std.specs.List.{range_with_len, list_all}
use Rattle.std.proofs.lemmas.Bool.{and_from, and_parts, cases_eq}
use Rattle.std.proofs.lemmas.List.{ext_get_or, map-append}
use Rattle.std.proofs.lemmas.List.FromFn.{length-map-range_with_len, get_or-map-range_with_len, length-range_with_len, get_or-range_with_len}
use Rattle.std.proofs.lemmas.List.Sums.{AllPass-from_list_all, list_all-from_AllPass}
use Rattle.std.proofs.lemmas.List.Elements.{All-from_get_or}
use Rattle.std.proofs.lemmas.Grind.{common_steps}

-- cut at a place
pub range-add : (a m b n k : ℕ) → a + m ≡ b → m + n ≡ k → range_with_len a k ≡ range_with_len a m ++ range_with_len b n
range-add a zero b n k e f =
    let same : a ≡ b = omega arith in
    let all : k ≡ n = omega arith in
    cc
range-add a (suc m) b n zero e f = absurd (omega arith)
range-add a (suc m) b n (suc k) e f = ap (λ l. a ∷ l) (range-add (a + 1) m b n k (omega arith) (omega arith))

pub map-range-add : {X : Type 0} (g : ℕ → X) (a m b n k : ℕ) → a + m ≡ b → m + n ≡ k
    → map g (range_with_len a k) ≡ map g (range_with_len a m) ++ map g (range_with_len b n)
map-range-add g a m b n k e f = ap (map g) (range-add a m b n k e f) ∙ map-append g (range_with_len a m) (range_with_len b n)

-- the part of a list whose elements are those of a function at `n` places from `a`
pub part_by_each : (g : ℕ → ℕ) (xs : List ℕ) (a s n : ℕ) → s + n ≤ length xs → ((k : ℕ) → k < n → g (a + k) ≡ get_or xs (s + k) 0)
    → take n (drop s xs) ≡ map g (range_with_len a n)
part_by_each g xs a s n within each =
    ext_get_or 0 _ _ (grind (arith, common_steps, length-map-range_with_len g a n))
    (λ k lt. let low : k < n = grind (arith, common_steps) in
    grind (arith, common_steps, each k low, get_or-map-range_with_len g a n k (a + k) 0 low refl))

-- two functions that agree at each of the places
pub map_same : {X : Type 0} (f g : ℕ → X) (a n : ℕ) → ((k : ℕ) → a ≤ k → k < a + n → f k ≡ g k)
    → map f (range_with_len a n) ≡ map g (range_with_len a n)
map_same f g a zero same = refl
map_same f g a (suc n) same =
    let first = same a (omega arith) (omega arith) in
    let others = map_same f g (a + 1) n (λ k low high. same k (omega arith) (omega arith)) in
    cc

-- a test that holds at each place, and back
pub all_by_each : (p : ℕ → Bool) (a n : ℕ) → ((k : ℕ) → a ≤ k → k < a + n → p k ≡ true) → list_all p (range_with_len a n) ≡ true
all_by_each p a zero each = refl
all_by_each p a (suc n) each =
    and_from (p a) (list_all p (range_with_len (a + 1) n)) (each a (omega arith) (omega arith))
    (all_by_each p (a + 1) n (λ k low high. each k (omega arith) (omega arith)))

pub each_of_all : (p : ℕ → Bool) (a n k : ℕ) → list_all p (range_with_len a n) ≡ true → a ≤ k → k < a + n → p k ≡ true
each_of_all p a zero k all low high = absurd (omega arith)
each_of_all p a (suc n) k all low high =
    let parts = and_parts (p a) (list_all p (range_with_len (a + 1) n)) all in
    elim (cases_eq a k) [
      | inl e ↦ (sym (ap p e) ∙ parts.0)
      | inr ne ↦ each_of_all p (a + 1) n k parts.1 (omega arith) (omega arith)
    ]

-- the number at a place of the places from 0
get_or-places : (n place : ℕ) → place < n → get_or (range_with_len 0 n) place 0 ≡ place
get_or-places n place l = let at : get_or (range_with_len 0 n) place 0 ≡ 0 + place = get_or-range_with_len 0 n place 0 l in omega arith

-- a test of each place from 0
pub each_place : (test : ℕ → Bool) (n : ℕ) → list_all test (range_with_len 0 n) ≡ true → (place : ℕ) → place < n → test place ≡ true
each_place test n e place l =
    ap test (sym (get_or-places n place l))
    ∙ AllPass-from_list_all test (range_with_len 0 n) e place 0 (rw length-range_with_len l)

pub from_each_place : (test : ℕ → Bool) (n : ℕ) → ((place : ℕ) → place < n → test place ≡ true) → list_all test (range_with_len 0 n) ≡ true
from_each_place test n each =
    list_all-from_AllPass test (range_with_len 0 n)
    (All-from_get_or (λ place. test place ≡ true) (range_with_len 0 n) 0
    (λ place within.
    let l : place < n = rw length-range_with_len at within in
    ap test (get_or-places n place l) ∙ each place l))
