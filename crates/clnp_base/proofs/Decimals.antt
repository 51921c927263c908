-- A decimal read digit by digit.
use Rattle.std.proofs.Common.{◌≡◌, ℕ, suc, length, drop, get_or, drop-cons, ◌+◌, ◌-◌, ◌*◌, ◌^◌, ◌<◌, ◌≤◌, ◌&&◌, inl, inr, nat_lt, if◌then◌else◌, List, [], ◌∷◌, fold, Option, Some, None, arith, refl, sym, ap, ◌∙◌, false}
use Rattle.std.proofs.lemmas.Bool.{and_right, cases_Bool}
use Rattle.std.proofs.lemmas.Bool.Decides.{nat_tests}
use Rattle.std.specs.List.{list_all}
use Rattle.clnp_base.specs.Text.{is_digit, decimal_of}
use Rattle.clnp_base.specs.Cuts.{with_digit}
use Rattle.clnp_base.proofs.Choices.{not_picked}

-- what digits are worth that come after a number
abbrev pub value_after : ℕ → List ℕ → ℕ
value_after n cs = fold (λ m c. 10 * m + (c - 48)) n cs

-- the number that digits spell that come after one
abbrev pub decimal_after : ℕ → List ℕ → Option ℕ
decimal_after n cs = if list_all is_digit cs && nat_lt (value_after n cs) (2 ^ 64) then Some (value_after n cs) else None

pub value_after-ge : (n : ℕ) (cs : List ℕ) → n ≤ value_after n cs
value_after-ge n [] = omega arith
value_after-ge n (c ∷ cs) = omega (arith, value_after-ge (10 * n + (c - 48)) cs)

too_high : (n k : ℕ) → nat_lt n (2 ^ 64) ≡ false → n ≤ k → nat_lt k (2 ^ 64) ≡ false
too_high n k e le = grind (arith, nat_tests)

pub decimal_after-none : (n c : ℕ) (cs : List ℕ) → with_digit n c ≡ None → decimal_after n (c ∷ cs) ≡ None
decimal_after-none n c cs e =
    let p = not_picked (is_digit c && nat_lt (10 * n + (c - 48)) (2 ^ 64)) (10 * n + (c - 48)) e in
    elim (cases_Bool (is_digit c)) [
      | inl d ↦
          let f : nat_lt (10 * n + (c - 48)) (2 ^ 64) ≡ false = rw d at p in
          let g = too_high (10 * n + (c - 48)) (value_after (10 * n + (c - 48)) cs) f (value_after-ge (10 * n + (c - 48)) cs) in
          rw (and_right (list_all is_digit (c ∷ cs)) (nat_lt (value_after n (c ∷ cs)) (2 ^ 64)) g) refl
      | inr d ↦ rw d refl
    ]

pub decimal_after-end : (n : ℕ) → n < 2 ^ 64 → decimal_after n [] ≡ Some n
decimal_after-end n h = grind (arith, nat_tests)

pub decimal_of-after : (cs : List ℕ) → 0 < length cs → decimal_of cs ≡ decimal_after 0 cs
decimal_of-after [] h = absurd (omega arith)
decimal_of-after (c ∷ cs) h = refl

pub decimal_of-stopped : (word : List ℕ) (i n : ℕ) → i < length word → decimal_after n (drop i word) ≡ decimal_after 0 word → with_digit n (get_or word i 0) ≡ None → None ≡ decimal_of word
decimal_of-stopped word i n h e w =
    sym (
    decimal_of-after word (omega arith)
    ∙ (sym e ∙ (ap (λ (l : List ℕ). decimal_after n l) (drop-cons word i 0 h) ∙ decimal_after-none n (get_or word i 0) (drop (suc i) word) w))
    )

pub decimal_of-read : (word : List ℕ) (n : ℕ) → 0 < length word → n < 2 ^ 64 → decimal_after n [] ≡ decimal_after 0 word → Some n ≡ decimal_of word
decimal_of-read word n h lt e = sym (decimal_of-after word h ∙ (sym e ∙ decimal_after-end n lt))
