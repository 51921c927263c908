-- Places that segments cover.
use Rattle.std.proofs.Common.{arith, ◌≡◌, ℕ, zero, suc, ◌+◌, ◌-◌, ◌<◌, ◌≤◌, Bool, true, false, inl, inr, List}
use Rattle.std.specs.List.{list_all, range_with_len}
use Rattle.std.proofs.lemmas.Bool.{cases_Bool}
use Rattle.system_tables.specs.Reassembly.Arrival.{Arrival, are_covered, is_covered}
use Rattle.pdus.proofs.ClnpBase.Ranges.{all_by_each, each_of_all}

module _ {C : Type 0} where
  -- places that are covered, one by one
  pub covered_by_each : (xs : List (Arrival C)) (from len : ℕ)
      → ((place : ℕ) → from ≤ place → place < from + len → is_covered xs place ≡ true) → are_covered xs from len ≡ true
  covered_by_each xs from len each = all_by_each (is_covered xs) from len each

  pub each_covered : (xs : List (Arrival C)) (from len place : ℕ) → are_covered xs from len ≡ true
      → from ≤ place → place < from + len → is_covered xs place ≡ true
  each_covered xs from len place all low high = each_of_all (is_covered xs) from len place all low high

  -- from a later place on
  pub covered_rest : (xs : List (Arrival C)) (from place to : ℕ) → from ≤ place → are_covered xs from (to - from) ≡ true
      → are_covered xs place (to - place) ≡ true
  covered_rest xs from place to low all =
      covered_by_each xs place (to - place) (λ at least most. each_covered xs from (to - from) at all (omega arith) (omega arith))

-- a place that doesn't pass a test, where not each does
pub not_each : (test : ℕ → Bool) (from len : ℕ) → list_all test (range_with_len from len) ≡ false
    → (place : ℕ) × (from ≤ place) × (place < from + len) × (test place ≡ false)
not_each test from zero e = absurd (cc)
not_each test from (suc len) e =
    elim (cases_Bool (test from)) [
      | inl t ↦
          let rest = not_each test (from + 1) len (rw t at e) in
          (rest.0, omega (arith, rest.1), omega (arith, rest.2), rest.3)
      | inr f ↦ (from, omega arith, omega arith, f)
    ]
