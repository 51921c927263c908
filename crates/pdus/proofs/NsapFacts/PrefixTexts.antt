-- What texts of prefixes are read as, what a prefix covers, and how it is written.
use Rattle.std.proofs.Common.{◌≡◌, ◌∙◌, ℕ, suc, ◌/◌, ◌%◌, ◌<◌, ◌≤◌, ◌+◌, ◌==◌, not, true, false, List, [], ◌∷◌, ◌++◌, length, map, take, drop, slice_index, Option, None, Some, Ok, arith, ap, refl, sym}
use Rattle.std.specs.List.{position_from}
use Rattle.std.specs.Prelude.{codes, unwrap_or}
use Rattle.std.proofs.lemmas.Bool.{false_from_ne_true}
use Rattle.std.proofs.lemmas.List.{length-map, take-append-drop}
use Rattle.std.proofs.Math.Seq.{take-append_seam}
use Rattle.std.proofs.lemmas.Slice.Eq.{bytes_eq-Decides}
use Rattle.hex.specs.Hex.{IsBytes, encode_with, hex_digit_value, lower_digits}
use Rattle.hex.proofs.HexLemmas.{IsDigits-lower_digits, length-encode_with}
use Rattle.pdus.specs.Nsap.Address.{IsAddress}
use Rattle.pdus.specs.Nsap.Prefix.{IsPrefix, covers, digit_value, digits_of, is_star, prefix_of, prefix_or_fault, prefix_spelled, prefix_text}
use Rattle.pdus.specs.Nsap.Text.{bad_digit, hex_text, may_stand, without_dots}
use Rattle.pdus.proofs.NsapFacts.HexTextFacts.{no_bad_digit, no_dots}
use Rattle.pdus.proofs.NsapFacts.Digits.{digit_may_stand, digit_no_dot, spelled_few}

-- the digits that are written of octets are worth the digits of these
values_of_octets : (octets : List ℕ) → IsBytes octets → map digit_value (encode_with lower_digits octets) ≡ digits_of octets
unfolding encode_with
values_of_octets [] bytes = refl
values_of_octets (octet ∷ rest) bytes =
    let fits : octet < 256 = bytes 0 in
    let high = ap (λ v. unwrap_or v 0) (IsDigits-lower_digits (octet / 16) (omega arith)) in
    let low = ap (λ v. unwrap_or v 0) (IsDigits-lower_digits (octet % 16) (omega arith)) in
    let others = values_of_octets rest (λ k. bytes (suc k)) in
    rw (high, low, others) refl

-- the text of an address isn't `*`
not_star : (octets : List ℕ) → is_star (hex_text octets) ≡ false
not_star octets = false_from_ne_true (is_star (hex_text octets)) (λ star.
    let same = ap length ((bytes_eq-Decides (hex_text octets) (codes "*")).0 star) in
    omega (arith, same, length-encode_with lower_digits octets))

prefix_known : (digits values : List ℕ) → length digits ≤ 40 → map digit_value digits ≡ values → prefix_spelled digits ≡ Ok values
prefix_known digits values few are = spelled_few digits few ∙ (rw are refl)

-- what is written of an address is read as the prefix of all its digits
pub prefix_of-hex_text : (octets : List ℕ) → IsAddress octets → prefix_of (hex_text octets) ≡ Ok (digits_of octets)
prefix_of-hex_text octets address =
    let size = length-encode_with lower_digits octets in
    let few = address.few in
    rw (not_star octets)
    (ap (λ (bad : Option ℕ). prefix_or_fault bad (without_dots (hex_text octets))) (no_bad_digit 0 octets address.bytes)
    ∙ ap prefix_spelled (no_dots octets address.bytes)
    ∙ prefix_known (hex_text octets) (digits_of octets) (omega (arith, size)) (values_of_octets octets address.bytes))

-- a prefix covers an address whose digits are its own and more
pub covering : (digits octets : List ℕ)
    → (covers digits octets ≡ true → (rest : List ℕ) × (digits_of octets ≡ digits ++ rest))
    × ((rest : List ℕ) × (digits_of octets ≡ digits ++ rest) → covers digits octets ≡ true)
covering digits octets = (
  λ covered.
      let same = (bytes_eq-Decides digits (take (length digits) (digits_of octets))).0 covered in (
        drop (length digits) (digits_of octets),
        sym (ap (λ (front : List ℕ). front ++ drop (length digits) (digits_of octets)) same ∙ take-append-drop (length digits) (digits_of octets)),
      ),
  λ more.
      (bytes_eq-Decides digits (take (length digits) (digits_of octets))).1
      (sym (ap (take (length digits)) more.1 ∙ take-append_seam digits more.0)),
)

-- ---- how a prefix is written

-- the character of a digit
abbrev pub shown : ℕ → ℕ
shown digit = slice_index lower_digits digit

no_star : (c d : ℕ) → hex_digit_value c ≡ Some d → (c == 42) ≡ false
no_star c d digit = grind (arith)

are_worth : (digits : List ℕ) → ((i : ℕ) → slice_index digits i < 16) → map digit_value (map shown digits) ≡ digits
are_worth [] small = refl
are_worth (digit ∷ digits) small =
    rw (ap (λ (v : Option ℕ). unwrap_or v 0) (IsDigits-lower_digits digit (small 0)), are_worth digits (λ i. small (suc i))) refl

none_bad : (i : ℕ) (digits : List ℕ) → ((i : ℕ) → slice_index digits i < 16) → position_from (λ c. not (may_stand c)) i (map shown digits) ≡ None
none_bad i [] small = refl
none_bad i (digit ∷ digits) small =
    rw (digit_may_stand (shown digit) digit (IsDigits-lower_digits digit (small 0))) (none_bad (i + 1) digits (λ k. small (suc k)))

none_dotted : (digits : List ℕ) → ((i : ℕ) → slice_index digits i < 16) → without_dots (map shown digits) ≡ map shown digits
none_dotted [] small = refl
none_dotted (digit ∷ digits) small =
    rw (digit_no_dot (shown digit) digit (IsDigits-lower_digits digit (small 0))) (ap (λ (rest : List ℕ). shown digit ∷ rest) (none_dotted digits (λ k. small (suc k))))

-- what is written of a prefix is read as this prefix
pub prefix_of-prefix_text : (digits : List ℕ) → IsPrefix digits → prefix_of (prefix_text digits) ≡ Ok digits
prefix_of-prefix_text [] is = refl
prefix_of-prefix_text (digit ∷ digits) is =
    let all : List ℕ = digit ∷ digits in
    let few = is.few in
    let long = length-map all shown in
    let read : prefix_or_fault (bad_digit (map shown all)) (without_dots (map shown all)) ≡ Ok all =
    ap (λ (bad : Option ℕ). prefix_or_fault bad (without_dots (map shown all))) (none_bad 0 all is.small)
    ∙ ap prefix_spelled (none_dotted all is.small)
    ∙ prefix_known (map shown all) all (omega (arith, few, long)) (are_worth all is.small) in
    rw (no_star (shown digit) digit (IsDigits-lower_digits digit (is.small 0))) read

pub text_of_none : (digits : List ℕ) → length digits ≡ 0 → prefix_text digits ≡ codes "*"
text_of_none [] none = refl
text_of_none (digit ∷ digits) none = absurd (omega arith)

pub text_of_some : (digits : List ℕ) → (length digits ≡ 0 → ⊥) → prefix_text digits ≡ map shown digits
text_of_some [] some = absurd (some refl)
text_of_some (digit ∷ digits) some = refl
