-- Arithmetic modulo 255, over plain numbers.
use Rattle.std.proofs.Common.{◌≡◌, ◌≢◌, ℕ, ◌+◌, ◌-◌, ◌*◌, ◌%◌, ◌<◌, cond, eqb, sym, ◌∙◌, ap, arith}
use Rattle.std.proofs.lemmas.Nat.{mul-mod_second}
use Rattle.pdus.specs.Fletcher.Checksum.{checksum_octet}

-- a congruence may be multiplied
pub scaled : (m a b : ℕ) → a % 255 ≡ b % 255 → (m * a) % 255 ≡ (m * b) % 255
scaled m a b e = sym (mul-mod_second m a 255) ∙ ap (λ t. (m * t) % 255) e ∙ mul-mod_second m b 255

pub record IsOctetOf (n x : ℕ) : Type 0 where
  pub nonzero : x ≢ 0
  pub small : x < 256
  pub residue : x % 255 ≡ n % 255

pub checksum_octet_is : (n : ℕ) → IsOctetOf n (checksum_octet n)
checksum_octet_is n = record { nonzero = grind arith; small = grind arith; residue = grind arith }

pub checksum_octet_unique : (n x : ℕ) → IsOctetOf n x → x ≡ checksum_octet n
checksum_octet_unique n x h = grind arith

pub checksum_octet_congruent : (m n : ℕ) → m % 255 ≡ n % 255 → checksum_octet m ≡ checksum_octet n
checksum_octet_congruent m n e = ap (λ t. cond (eqb t 0) 255 t) e

-- The pair that the standard's formulas give makes both sums 0. Of L octets, octet 8 weighs k + 1 and octet 9 weighs k.
pub record Solves (k c0 c1 x y : ℕ) : Type 0 where
  pub sum : (c0 + x + y) % 255 ≡ 0
  pub weighted_sum : (c1 + (k + 1) * x + k * y) % 255 ≡ 0

pub solves : (k c0 c1 x y : ℕ) → x % 255 ≡ (k * c0 + 254 * c1) % 255 → y % 255 ≡ (c1 + 254 * ((k + 1) * c0)) % 255 → Solves k c0 c1 x y
solves k c0 c1 x y ex ey =
    let first : (c0 + x + y) % 255 ≡ 0 % 255 = omega arith in
    let times : (k * (c0 + x + y)) % 255 ≡ (k * 0) % 255 = scaled k (c0 + x + y) 0 first in
    record { sum = omega arith; weighted_sum = omega arith }

pub solution_x : (k c0 c1 x y : ℕ) → Solves k c0 c1 x y → x % 255 ≡ (k * c0 + 254 * c1) % 255
solution_x k c0 c1 x y h =
    let first : (c0 + x + y) % 255 ≡ 0 % 255 = h.sum in
    let times : (k * (c0 + x + y)) % 255 ≡ (k * 0) % 255 = scaled k (c0 + x + y) 0 first in
    omega (arith, h.weighted_sum)

pub solution_y : (k c0 c1 x y : ℕ) → Solves k c0 c1 x y → y % 255 ≡ (c1 + 254 * ((k + 1) * c0)) % 255
solution_y k c0 c1 x y h =
    let first : x % 255 ≡ (k * c0 + 254 * c1) % 255 = solution_x k c0 c1 x y h in
    omega (arith, h.sum)

-- An octet of weight m at place p changes by `change`, and octets 8 and 9 of a header of k + 8 octets from x and y to x2 and y2
-- as the standard's formulas for it say: x + (p - 9) * change and y + (8 - p) * change, with 255 added to each factor and to the change.
pub record Adjusts (k p m old new x y x2 y2 : ℕ) : Type 0 where
  pub weight : p + m ≡ k + 9
  pub small : p < 255
  pub known : old < 256
  pub octet_8 : x2 % 255 ≡ (x + (255 + p - 9) * (255 + new - old)) % 255
  pub octet_9 : y2 % 255 ≡ (y + (255 + 8 - p) * (255 + new - old)) % 255

-- both sums then change by nothing: of the header by the octet that changes, and by octets 8 and 9
pub record Balances (k m old new x y x2 y2 : ℕ) : Type 0 where
  pub sum : (new + x2 + y2) % 255 ≡ (old + x + y) % 255
  pub weighted_sum : (m * new + (k + 1) * x2 + k * y2) % 255 ≡ (m * old + (k + 1) * x + k * y) % 255

balances_plain : (k p m old new x y x2 y2 d q r : ℕ) → p + m ≡ k + 9 → d + old ≡ 255 + new → q + 9 ≡ 255 + p → r + p ≡ 263 → x2 % 255 ≡ (x + q * d) % 255 → y2 % 255 ≡ (y + r * d) % 255 → Balances k m old new x y x2 y2
balances_plain k p m old new x y x2 y2 d q r weight change eq er ex ey =
    let factors : q + r ≡ 509 = omega arith in
    let both : q * d + r * d ≡ 509 * d = omega (arith, ap (λ t. t * d) factors) in
    let pair : (x2 + y2) % 255 ≡ (x + y + 509 * d) % 255 = omega arith in
    let times : (k * (x2 + y2)) % 255 ≡ (k * (x + y + 509 * d)) % 255 = scaled k (x2 + y2) (x + y + 509 * d) pair in
    let of_new : m * d + m * old ≡ m * 255 + m * new = omega (arith, ap (λ t. m * t) change) in
    let of_weight : p * d + m * d ≡ k * d + 9 * d = omega (arith, ap (λ t. t * d) weight) in
    let of_factor : q * d + 9 * d ≡ 255 * d + p * d = omega (arith, ap (λ t. t * d) eq) in
    record { sum = omega arith; weighted_sum = omega arith }

pub balances : (k p m old new x y x2 y2 : ℕ) → Adjusts k p m old new x y x2 y2 → Balances k m old new x y x2 y2
balances k p m old new x y x2 y2 h =
    let weight : p + m ≡ k + 9 = h.weight in
    let small : p < 255 = h.small in
    let known : old < 256 = h.known in
    balances_plain k p m old new x y x2 y2 (255 + new - old) (255 + p - 9) (255 + 8 - p) weight (omega arith) (omega arith) (omega arith) h.octet_8 h.octet_9
