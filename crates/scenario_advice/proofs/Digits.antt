-- Hexadecimal digits are plain characters.
use Rattle.std.proofs.Common.{rules, arith, ◌≡◌, ℕ, ◌<◌, ◌/◌, ◌%◌, List, [], ◌∷◌, slice_index, true, refl}
use Rattle.std.specs.List.{list_all}
use Rattle.hex.specs.Hex.{encode_lower, lower_digits, encode_with}
use Rattle.scenario_advice.specs.Said.{is_plain}

pub digit_is_plain : (digit : ℕ) → digit < 16 → is_plain (slice_index lower_digits digit) ≡ true
digit_is_plain digit small = search rules

pub spelled_is_plain : (octet : ℕ) → octet < 256 → list_all is_plain (encode_lower (octet ∷ [])) ≡ true
unfolding encode_with
spelled_is_plain octet small =
    let high : is_plain (slice_index lower_digits (octet / 16)) ≡ true = digit_is_plain (octet / 16) (omega arith) in
    let low : is_plain (slice_index lower_digits (octet % 16)) ≡ true = digit_is_plain (octet % 16) (omega arith) in
    rw high (rw low refl)
