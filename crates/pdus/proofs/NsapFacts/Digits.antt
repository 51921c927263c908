-- Hexadecimal digits in the texts of addresses and of prefixes, and what they are worth.
use Rattle.std.proofs.Common.{◌≡◌, ℕ, zero, suc, ◌<◌, ◌≤◌, true, false, List, [], ◌∷◌, length, map, Some, Ok, inl, inr, refl, ap, arith, get_or, ◌∙◌}
use Rattle.std.specs.Prelude.{◌%◌, slice_index, None}
use Rattle.std.specs.Option.{is_some}
use Rattle.std.proofs.lemmas.Bool.{cases_eq, ne_eqb, le-leb}
use Rattle.hex.specs.Hex.{encode_lower, encode_with, hex_digit_value, is_hex_digit, lower_digits}
use Rattle.pdus.specs.Nsap.Prefix.{digit_value, prefix_spelled}
use Rattle.pdus.specs.Nsap.Text.{is_dot, may_stand}

-- a hexadecimal digit is no dot
pub digit_no_dot : (c d : ℕ) → hex_digit_value c ≡ Some d → is_dot c ≡ false
digit_no_dot c d digit =
    elim (cases_eq c 46) [
      | inl dot ↦ let none : hex_digit_value c ≡ None = ap hex_digit_value dot in cc (digit, none)
      | inr other ↦ ne_eqb c 46 other
    ]

-- a hexadecimal digit may stand in a text
pub digit_may_stand : (c d : ℕ) → hex_digit_value c ≡ Some d → may_stand c ≡ true
digit_may_stand c d digit =
    let no = digit_no_dot c d digit in
    let yes : is_hex_digit c ≡ true = ap is_some digit in
    rw (no, yes) refl

pub value_small : (c : ℕ) → digit_value c < 16
value_small c = grind arith

pub values_small : (digits : List ℕ) (i : ℕ) → slice_index (map digit_value digits) i < 16
values_small [] i = omega arith
values_small (digit ∷ rest) zero = value_small digit
values_small (digit ∷ rest) (suc i) = values_small rest i

-- at most forty digits spell a prefix
pub spelled_few : (digits : List ℕ) → length digits ≤ 40 → prefix_spelled digits ≡ Ok (map digit_value digits)
spelled_few digits few = rw (le-leb (length digits) 40 few) refl

-- ---- one digit, written as the low one of an octet

pub written_digit : (value : ℕ) (digits : List ℕ) → value < 16 → digits ≡ encode_lower (value ∷ [])
    → get_or digits 1 0 ≡ slice_index lower_digits value
unfolding encode_with
written_digit value digits small is =
    let low : value % 16 ≡ value = omega arith in
    ap (λ ds. get_or ds 1 0) is ∙ ap (slice_index lower_digits) low
