-- A header as its nine octets and what follows them, with a checksum and without.
use Rattle.std.proofs.Common.{◌≡◌, ◌≢◌, ℕ, ◌+◌, ◌*◌, ◌^◌, ◌<◌, ◌≤◌, ◌==◌, ◌||◌, nat_lt, not, true, false, List, [], ◌∷◌, ◌++◌, length, drop, get_or, length-take-le, get_or-take, refl, sym, ◌∙◌, ap, arith}
use Rattle.std.proofs.lemmas.Bool.Decides.{nat_tests}
use Rattle.std.proofs.lemmas.Grind.{common_steps}
use Rattle.pdus.specs.Fletcher.Checksum.{IsSealed, sealed, with_checksum, without_checksum}
-- whether a checksum is right, as it is tested
pub use Rattle.pdus.proofs.FletcherFacts.Test.{right_from_test, unused_passes, sealed_passes}
use Rattle.pdus.specs.PduHeader.Spelling.{pair_of}
use Rattle.pdus.specs.PduHeader.Rules.{octet, pair_at, header_of, header_size}
pub use Rattle.pdus.proofs.FletcherFacts.ChecksumLaws.{length-sealed, sealed_is, sealed_of_bare, sealed_other, sealed_shares, with_checksum_same}

pub nine_bare : (head : List ℕ) → 9 ≤ length head
    → without_checksum head
    ≡ get_or head 0 0 ∷ get_or head 1 0 ∷ get_or head 2 0 ∷ get_or head 3 0 ∷ get_or head 4 0 ∷ get_or head 5 0 ∷ get_or head 6 0 ∷ 0 ∷ 0 ∷ drop 9 head
nine_bare (a ∷ b ∷ c ∷ d ∷ e ∷ f ∷ g ∷ h ∷ i ∷ rest) long = refl
nine_bare _ long = absurd (omega arith)

-- nine octets and what follows them
abbrev pub laid_out : ℕ → ℕ → ℕ → ℕ → ℕ → List ℕ → ℕ → ℕ → List ℕ → List ℕ
laid_out a b c d e pair x y rest = a ∷ b ∷ c ∷ d ∷ e ∷ (pair ++ (x ∷ y ∷ rest))

pub same_layout : (a b c d e a_2 b_2 c_2 d_2 e_2 x y : ℕ) (pair pair_2 rest rest_2 : List ℕ)
    → a ≡ a_2 → b ≡ b_2 → c ≡ c_2 → d ≡ d_2 → e ≡ e_2 → pair ≡ pair_2 → rest ≡ rest_2
    → laid_out a b c d e pair x y rest ≡ laid_out a_2 b_2 c_2 d_2 e_2 pair_2 x y rest_2
same_layout a b c d e a_2 b_2 c_2 d_2 e_2 x y pair pair_2 rest rest_2 at_a at_b at_c at_d at_e at_pair at_rest = cc

-- a header, from what it is without its checksum
pub sealing_again : (head bare : List ℕ) → 9 ≤ length head → octet head 8 < 256 → octet head 9 < 256
    → without_checksum head ≡ bare → IsSealed head → head ≡ sealed bare
sealing_again head bare long x_small y_small e h = sealed_of_bare head long x_small y_small h ∙ ap sealed e

pub bare_again : (head bare : List ℕ) → without_checksum head ≡ bare → octet head 8 ≡ 0 → octet head 9 ≡ 0 → head ≡ bare
bare_again head bare e x y =
    sym (with_checksum_same head) ∙ ap (λ k. with_checksum head k (get_or head 8 0)) x ∙ ap (λ k. with_checksum head 0 k) y ∙ e

-- a sealed header is its octets with others in places 8 and 9
pub sealed_layout : (a b c d e high low : ℕ) (rest : List ℕ)
    → (x : ℕ) × (y : ℕ) × (sealed (a ∷ b ∷ c ∷ d ∷ e ∷ high ∷ low ∷ 0 ∷ 0 ∷ rest) ≡ a ∷ b ∷ c ∷ d ∷ e ∷ high ∷ low ∷ x ∷ y ∷ rest)
sealed_layout a b c d e high low rest =
    let bare = a ∷ b ∷ c ∷ d ∷ e ∷ high ∷ low ∷ 0 ∷ 0 ∷ rest in
    (octet (sealed bare) 8, octet (sealed bare) 9, sealed_shares bare (omega arith))

pub pair_is_zero : (head : List ℕ) → octet head 8 ≡ 0 → octet head 9 ≡ 0 → not (pair_at head 8 == 0) ≡ false
pair_is_zero head x y = grind (arith, nat_tests)

pub pair_is_used : (head : List ℕ) → octet head 8 ≢ 0 → not (pair_at head 8 == 0) ≡ true
pair_is_used head x = grind (arith, nat_tests)

pub pair_again : (high low n : ℕ) → n < 2 ^ 16 → pair_of n ≡ high ∷ low ∷ [] → 256 * high + low ≡ n
pair_again high low n fits e = omega (arith, ap (λ xs. get_or xs 0 0) e, ap (λ xs. get_or xs 1 0) e)

pub pair_of_octets : (high low : ℕ) → high < 256 → low < 256 → pair_of (256 * high + low) ≡ high ∷ low ∷ []
pair_of_octets high low at_high at_low = grind (arith, common_steps)

-- a header lies at the front of the frame
pub record HasHeader (frame : List ℕ) : Type 0 where
  pub long : 9 ≤ length frame
  pub size : 9 ≤ header_size frame
  pub not_reserved : header_size frame ≢ 255
  pub within : header_size frame ≤ length frame

pub good_size : (n : ℕ) → (nat_lt n 9 || n == 255) ≡ false → (9 ≤ n) × (n ≢ 255)
good_size n h = (grind (arith, nat_tests), λ e. grind (arith, nat_tests))

pub length_of_header : (frame : List ℕ) → HasHeader frame → length (header_of frame) ≡ header_size frame
length_of_header frame h = length-take-le (header_size frame) frame h.within

pub octet_of_header : (frame : List ℕ) (i : ℕ) → HasHeader frame → i < 9 → get_or (header_of frame) i 0 ≡ get_or frame i 0
octet_of_header frame i h low = get_or-take (header_size frame) frame i 0 (omega (arith, h.size))
