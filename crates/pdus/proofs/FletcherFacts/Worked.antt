-- A worked header: its sums with octets 8 and 9 zero are 216 and 130 modulo 255, and ce 58 seals it.
use Rattle.std.proofs.Common.{◌≡◌, ℕ, ◌%◌, List, [], ◌∷◌, refl}
use Rattle.std.specs.List.{sum}
use Rattle.pdus.specs.Fletcher.Checksum.{weighted_sum, checksum_x, checksum_y, sealed}

abbrev bare : List ℕ
bare = 0x81 ∷ 0x13 ∷ 0x01 ∷ 0x0a ∷ 0x3c ∷ 0x00 ∷ 0x15 ∷ 0x00 ∷ 0x00 ∷ 0x04 ∷ 0x47 ∷ 0x00 ∷ 0x27 ∷ 0x01 ∷ 0x04 ∷ 0x47 ∷ 0x00 ∷ 0x27 ∷ 0x02 ∷ []

abbrev whole : List ℕ
whole = 0x81 ∷ 0x13 ∷ 0x01 ∷ 0x0a ∷ 0x3c ∷ 0x00 ∷ 0x15 ∷ 0xce ∷ 0x58 ∷ 0x04 ∷ 0x47 ∷ 0x00 ∷ 0x27 ∷ 0x01 ∷ 0x04 ∷ 0x47 ∷ 0x00 ∷ 0x27 ∷ 0x02 ∷ []

sum-bare : sum bare % 255 ≡ 216
sum-bare = refl

weighted_sum-bare : weighted_sum bare % 255 ≡ 130
weighted_sum-bare = refl

sealed-bare : sealed bare ≡ whole
unfolding sealed checksum_x checksum_y
sealed-bare = refl
