-- Frames in two parts: a header that lies in the frame's value itself, and shared octets behind it.
use Rattle.std.specs.Prelude.{ℕ, ◌≤◌, ◌<◌, ◌≡◌, List, length, slice_index}

-- Octets as of the header of a CLNP PDU (ISO 8473, section 7.2), which tells its length itself; at most 63 of them lie in a
-- frame's value.
pub record IsShortHeader (octets : List ℕ) : Type 0 where
  pub long : 9 ≤ length octets
  pub short : length octets ≤ 63
  pub protocol : slice_index octets 0 ≡ 0x81
  pub length_told : slice_index octets 1 ≡ length octets

-- the first part of a frame in two parts: nothing, or a short header
abbrev pub IsFront : List ℕ → Type 0
IsFront octets = 0 < length octets → IsShortHeader octets
