-- The first element that passes a test, where one after another is looked at.
use Rattle.std.proofs.Common.{◌≡◌, ℕ, ◌+◌, ◌<◌, ◌≤◌, List, length, get_or, cond, Bool, true, false, Some, None, refl, sym, ap, ◌∙◌, arith}
use Rattle.std.specs.Prelude.{nat_lt}
use Rattle.std.specs.List.{position, position_or_len}
use Rattle.std.proofs.lemmas.Bool.{ltb-true, ltb-false, lt-ltb, true≢false}
use Rattle.std.proofs.lemmas.List.Sums.{fails_before_first, passes_at_first}

-- it isn't the one that is looked at
pub first_behind : {X : Type 0} (p : X → Bool) (xs : List X) (i : ℕ) (x : X) → i ≤ position_or_len p xs → i < length xs → x ≡ get_or xs i x
    → p x ≡ false → i + 1 ≤ position_or_len p xs
first_behind {X} p xs i x before within read fails = by_test (nat_lt i (position_or_len p xs)) refl
  where
    by_test : (b : Bool) → nat_lt i (position_or_len p xs) ≡ b → i + 1 ≤ position_or_len p xs
    by_test true is = omega (arith, ltb-true i (position_or_len p xs) is)
    by_test false is =
        let same : position_or_len p xs ≡ i = omega (arith, ltb-false i (position_or_len p xs) is) in
        let passes = passes_at_first p xs x (omega arith) in
        absurd (true≢false (sym passes ∙ ap (λ (k : ℕ). p (get_or xs k x)) same ∙ ap p (sym read) ∙ fails))

-- it is the one that is looked at
pub first_here : {X : Type 0} (p : X → Bool) (xs : List X) (i : ℕ) (x : X) → i ≤ position_or_len p xs → i < length xs → x ≡ get_or xs i x
    → p x ≡ true → position p xs ≡ Some i
first_here {X} p xs i x before within read passes = by_test (nat_lt i (position_or_len p xs)) refl
  where
    by_test : (b : Bool) → nat_lt i (position_or_len p xs) ≡ b → position p xs ≡ Some i
    by_test true is =
        let fails = fails_before_first p xs i x (ltb-true i (position_or_len p xs) is) in
        absurd (true≢false (sym passes ∙ ap p read ∙ fails))
    by_test false is =
        let same : position_or_len p xs ≡ i = omega (arith, ltb-false i (position_or_len p xs) is) in
        ap (λ (k : ℕ). cond (nat_lt k (length xs)) (Some k) None) same
        ∙ ap (λ (b : Bool). cond b (Some i) None) (lt-ltb i (length xs) within)
