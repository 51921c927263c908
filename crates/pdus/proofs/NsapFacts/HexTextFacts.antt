-- The hexadecimal text of octets has digits alone, and is read as the octets.
use Rattle.std.proofs.Common.{◌≡◌, ℕ, ◌+◌, ◌/◌, ◌%◌, ◌<◌, ◌≤◌, not, true, List, [], ◌∷◌, length, slice_index, Option, Some, None, Result, Ok, Err, is_some, refl, sym, ap, ◌∙◌, suc, arith}
use Rattle.std.specs.List.{AllPass, position_from}
use Rattle.std.proofs.lemmas.List.Elements.{All-cons, All-nil}
use Rattle.hex.specs.Hex.{IsBytes, decode_of, encode_with, is_hex_digit, lower_digits}
use Rattle.hex.specs.declared.error.FromHexError.{FromHexError}
use Rattle.hex.proofs.HexLemmas.{IsDigits-lower_digits, decode_of-encode_lower, decode_of-ok}
use Rattle.pdus.specs.Nsap.Address.{IsAddress, address_of}
use Rattle.pdus.specs.Nsap.Text.{address_spelled, bad_digit, hex_text, may_stand, octets_of, octets_or_fault, without_dots}
use Rattle.pdus.proofs.NsapFacts.TextFacts.{read_good}
use Rattle.pdus.proofs.NsapFacts.Digits.{digit_no_dot, digit_may_stand}

abbrev digit : ℕ → Type 0
digit c = is_hex_digit c ≡ true

-- the hexadecimal text has no bad character
pub no_bad_digit : (i : ℕ) (octets : List ℕ) → IsBytes octets
    → position_from (λ c. not (may_stand c)) i (encode_with lower_digits octets) ≡ None
unfolding encode_with
no_bad_digit i [] bytes = refl
no_bad_digit i (b ∷ rest) bytes =
    let fits : b < 256 = bytes 0 in
    let high = digit_may_stand (slice_index lower_digits (b / 16)) (b / 16) (IsDigits-lower_digits (b / 16) (omega arith)) in
    let low = digit_may_stand (slice_index lower_digits (b % 16)) (b % 16) (IsDigits-lower_digits (b % 16) (omega arith)) in
    rw (high, low) (no_bad_digit (i + 1 + 1) rest (λ k. bytes (suc k)))

-- the hexadecimal text has no dots
pub no_dots : (octets : List ℕ) → IsBytes octets → without_dots (encode_with lower_digits octets) ≡ encode_with lower_digits octets
unfolding encode_with
no_dots [] bytes = refl
no_dots (b ∷ rest) bytes =
    let fits : b < 256 = bytes 0 in
    let high = digit_no_dot (slice_index lower_digits (b / 16)) (b / 16) (IsDigits-lower_digits (b / 16) (omega arith)) in
    let low = digit_no_dot (slice_index lower_digits (b % 16)) (b % 16) (IsDigits-lower_digits (b % 16) (omega arith)) in
    let others = no_dots rest (λ k. bytes (suc k)) in
    rw (high, low) (ap (λ (t : List ℕ). slice_index lower_digits (b / 16) ∷ slice_index lower_digits (b % 16) ∷ t) others)

-- the octets of an address are that address
address_of-address : (octets : List ℕ) → 1 ≤ length octets → length octets ≤ 20 → address_of octets ≡ Ok octets
address_of-address octets some few = grind (arith)

-- what is written of an address is read as the same address
pub octets_of-hex_text : (octets : List ℕ) → IsAddress octets → octets_of (hex_text octets) ≡ Ok octets
octets_of-hex_text octets h =
    read_good (hex_text octets) (hex_text octets) (no_bad_digit 0 octets h.bytes) (sym (no_dots octets h.bytes))
    ∙ ap address_spelled (decode_of-encode_lower octets h.bytes)
    ∙ address_of-address octets h.some h.few

-- octets that are taken as an address
taken_as : (octets taken : List ℕ) → IsBytes octets → address_of octets ≡ Ok taken → IsAddress taken
taken_as octets taken bytes is =
    let some : 1 ≤ length octets = grind (arith) in
    let few : length octets ≤ 20 = grind (arith) in
    let same : octets ≡ taken = grind (arith) in
    rw (← same) (record { some = some; few = few; bytes = bytes })

spelled_is_address : (digits : List ℕ) (r : Result (List ℕ) FromHexError) (octets : List ℕ) → decode_of digits ≡ r
    → address_spelled r ≡ Ok octets → IsAddress octets
spelled_is_address digits (Ok bytes) octets decoded is = taken_as bytes octets (decode_of-ok digits bytes decoded).3 is
spelled_is_address digits (Err e) octets decoded is = cc is

read_as : (bad : Option ℕ) (digits octets : List ℕ) → octets_or_fault bad digits ≡ Ok octets → IsAddress octets
read_as (Some place) digits octets is = cc is
read_as None digits octets is = spelled_is_address digits (decode_of digits) octets refl is

-- what a text is read as is an address
pub IsAddress-octets_of : (text octets : List ℕ) → octets_of text ≡ Ok octets → IsAddress octets
unfolding octets_of
IsAddress-octets_of text octets is = read_as (bad_digit text) (without_dots text) octets is

-- what is written of octets is digits
digits_of_octets : (octets : List ℕ) → IsBytes octets → AllPass is_hex_digit (encode_with lower_digits octets)
unfolding encode_with
digits_of_octets [] bytes = All-nil digit
digits_of_octets (b ∷ rest) bytes =
    let fits : b < 256 = bytes 0 in
    let high = ap is_some (IsDigits-lower_digits (b / 16) (omega arith)) in
    let low = ap is_some (IsDigits-lower_digits (b % 16) (omega arith)) in
    let others = digits_of_octets rest (λ k. bytes (suc k)) in
    let second : ℕ = slice_index lower_digits (b % 16) in
    All-cons digit (slice_index lower_digits (b / 16)) (second ∷ encode_with lower_digits rest) high
    (All-cons digit second (encode_with lower_digits rest) low others)

pub AllPass-hex_text : (octets : List ℕ) → IsAddress octets → AllPass is_hex_digit (hex_text octets)
AllPass-hex_text octets h = digits_of_octets octets h.bytes
