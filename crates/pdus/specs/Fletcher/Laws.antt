-- What holds of the definitions of the checksum for all headers.
use Rattle.std.specs.Prelude.{◌≡◌, ℕ, ◌<◌, Bool, true, false, List}
use Rattle.pdus.specs.Fletcher.Checksum.{octet, IsSealed, with_checksum, sealed}

-- For given other octets exactly one pair of octets 8 and 9 seals a header: the pair that `sealed` writes.
pub record IsSealedOnce (head : List ℕ) : Type 0 where
  pub exists : IsSealed (sealed head)
  pub octet_8 : octet (sealed head) 8 < 256
  pub octet_9 : octet (sealed head) 9 < 256
  pub unique : (x y : ℕ) → x < 256 → y < 256 → IsSealed (with_checksum head x y) → with_checksum head x y ≡ sealed head

-- `other` is the same header but for octets 8 and 9
abbrev pub SharesOthers : List ℕ → List ℕ → Type 0
SharesOthers head other = other ≡ with_checksum head (octet other 8) (octet other 9)

-- the checksum is in use and right, or it is not in use, as is wanted
abbrev pub HasChecksum : Bool → List ℕ → Type 0
HasChecksum true head = IsSealed head
HasChecksum false head = (octet head 8 ≡ 0) × (octet head 9 ≡ 0)
