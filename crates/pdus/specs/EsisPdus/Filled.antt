-- How the fields of a list of addresses hold it.
use Rattle.std.specs.Prelude.{◌≡◌, ℕ, true, List, []}
use Rattle.hex.specs.Hex.{IsBytes}
use Rattle.pdus.specs.EsisPdus.Fields.{are_addresses, behind_addresses}

-- the octets are so many addresses, and nothing else
pub record IsFilled (left : ℕ) (octets : List ℕ) : Type 0 where
  pub whole : are_addresses left octets ≡ true
  pub nothing_behind : behind_addresses left octets ≡ []
  pub bytes : IsBytes octets
