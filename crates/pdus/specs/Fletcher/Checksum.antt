-- The checksum of a header (ISO/IEC 8473, RFC 994, section 6.11 and its annex on the algorithms; ISO 9542 makes it alike).
-- A header is the list of its octets. As the standard does, places are counted from 1; the checksum stands in octets 8 and 9.
use Rattle.std.specs.Prelude.{◌≡◌, ◌≢◌, ℕ, ◌+◌, ◌-◌, ◌*◌, ◌%◌, ◌==◌, ◌&&◌, not, Bool, if◌then◌else◌, ◌⊎◌, List, [], ◌∷◌, length, sum, slice_index}
use Rattle.std.specs.List.{slice_set}

-- the octet at a place
abbrev pub octet : List ℕ → ℕ → ℕ
octet head place = slice_index head (place - 1)

-- each octet times its weight, summed: octet i of L octets weighs L - i + 1
abbrev pub weighted_sum : List ℕ → ℕ
weighted_sum [] = 0
weighted_sum (a ∷ rest) = (length rest + 1) * a + weighted_sum rest

-- the checksum is in use, and both sums are 0 modulo 255
pub record IsSealed (head : List ℕ) : Type 0 where
  pub octet_8 : octet head 8 ≢ 0
  pub octet_9 : octet head 9 ≢ 0
  pub sum : sum head % 255 ≡ 0
  pub weighted_sum : weighted_sum head % 255 ≡ 0

-- the checksum is not in use, or it seals the header; exactly one of octets 8 and 9 zero is wrong
abbrev pub IsRight : List ℕ → Type 0
IsRight head = ((octet head 8 ≡ 0) × (octet head 9 ≡ 0)) ⊎ IsSealed head

-- the same as a test
abbrev pub has_right_checksum : List ℕ → Bool
has_right_checksum head =
    if octet head 8 == 0 then octet head 9 == 0
    else (not (octet head 9 == 0) && ((sum head % 255 == 0) && (weighted_sum head % 255 == 0)))

-- the checksum is in use after the change, and both sums are what they were, modulo 255
pub record KeepsSums (old new : List ℕ) : Type 0 where
  pub octet_8 : octet new 8 ≢ 0
  pub octet_9 : octet new 9 ≢ 0
  pub sum : sum new % 255 ≡ sum old % 255
  pub weighted_sum : weighted_sum new % 255 ≡ weighted_sum old % 255

-- the header with these octets 8 and 9
abbrev pub with_checksum : List ℕ → ℕ → ℕ → List ℕ
with_checksum head x y = slice_set (slice_set head 7 x) 8 y

-- the header with a checksum that is not in use
abbrev pub without_checksum : List ℕ → List ℕ
without_checksum head = with_checksum head 0 0

-- a number modulo 255 as a checksum octet: 0 is written as 255
abbrev pub checksum_octet : ℕ → ℕ
checksum_octet n = if n % 255 == 0 then 255 else n % 255

-- Octets 8 and 9 that seal a header of L octets. C0 and C1 are its sum and its weighted sum with octets 8 and 9 zero:
-- X = (L - 8) * C0 - C1 and Y = C1 - (L - 7) * C0 modulo 255, where to take n away is to add 254 * n.
unfoldable pub checksum_x : List ℕ → ℕ
checksum_x head =
    let bare = without_checksum head in
    checksum_octet ((length head - 8) * sum bare + 254 * weighted_sum bare)

unfoldable pub checksum_y : List ℕ → ℕ
checksum_y head =
    let bare = without_checksum head in
    checksum_octet (weighted_sum bare + 254 * ((length head - 7) * sum bare))

-- the header with the checksum that its other octets call for
unfoldable pub sealed : List ℕ → List ℕ
sealed head = with_checksum head (checksum_x head) (checksum_y head)
