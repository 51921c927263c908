-- The digits of addresses and of texts are those of prefixes.
use Rattle.std.proofs.Common.{◌≡◌, ◌∙◌, ℕ, zero, suc, ◌+◌, ◌*◌, ◌<◌, ◌≤◌, List, [], ◌∷◌, length, map, take, arith, ap, refl, subst, sym}
use Rattle.std.specs.Prelude.{slice_index}
use Rattle.std.proofs.lemmas.List.{length-map, length-take-le, take_all}
use Rattle.hex.specs.Hex.{IsBytes}
use Rattle.pdus.specs.Nsap.Address.{IsAddress}
use Rattle.pdus.specs.Nsap.Prefix.{IsPrefix, digit_value, digits_of}
use Rattle.pdus.proofs.NsapFacts.Digits.{values_small}

pub length-digits_of : (octets : List ℕ) → length (digits_of octets) ≡ 2 * length octets
length-digits_of [] = refl
length-digits_of (octet ∷ rest) = let more = length-digits_of rest in omega arith

digits_small : (octets : List ℕ) → IsBytes octets → (i : ℕ) → slice_index (digits_of octets) i < 16
digits_small [] bytes i = omega arith
digits_small (octet ∷ rest) bytes zero = let fits : octet < 256 = bytes 0 in omega arith
digits_small (octet ∷ rest) bytes (suc zero) = omega arith
digits_small (octet ∷ rest) bytes (suc (suc i)) = digits_small rest (λ k. bytes (suc k)) i

pub IsPrefix-digits_of : (octets : List ℕ) → IsAddress octets → IsPrefix (digits_of octets)
IsPrefix-digits_of octets address = record {
  few = let few = address.few in omega (arith, length-digits_of octets);
  small = digits_small octets address.bytes;
}

-- the digits of some octets and of one more are no more than an address has
pub digits_within : (octets digits : List ℕ) (i : ℕ) → digits ≡ digits_of (take i octets) → i < length octets → length octets ≤ 20
    → length digits + 2 ≤ 40
digits_within octets digits i so_far within few =
    let sizes = ap length so_far in
    omega (arith, sizes, length-digits_of (take i octets), length-take-le i octets (omega arith))

-- the digits of as many octets as an address has
pub IsPrefix-whole : (items octets digits : List ℕ) (i : ℕ) → digits ≡ digits_of (take i items) → length items ≤ i
    → items ≡ octets → IsAddress octets → IsPrefix digits
IsPrefix-whole items octets digits i so_far end same address =
    subst IsPrefix (sym (so_far ∙ ap digits_of (take_all i items end ∙ same))) (IsPrefix-digits_of octets address)

-- the values of at most forty digits
pub IsPrefix-values : (digits values : List ℕ) (n : ℕ) → n ≤ 40 → length digits ≡ 40 → values ≡ map digit_value (take n digits)
    → IsPrefix values
IsPrefix-values digits values n few wide are =
    let size = length-take-le n digits (omega arith) in
    subst IsPrefix (sym are)
    (record {
      few = simp length-map (rw size few);
      small = values_small (take n digits);
    })
