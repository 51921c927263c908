-- Ethernet frames, and the OSI PDUs in them.
use Rattle.std.specs.Prelude.{◌≡◌, ℕ, ◌+◌, ◌-◌, ◌==◌, ◌≤◌, ◌&&◌, nat_le, nat_lt, Bool, if◌then◌else◌, List, ◌∷◌, ◌++◌, length, take, drop, slice_index}
use Rattle.byteorder.specs.Endian.{big_bytes, big_number}

-- What is seen in the octets of a frame: no OSI PDU; one that passes their end; or one, with the frame's destination
-- and source.
pub data SeenFrame : Type 0 where
  OtherFrame : SeenFrame
  CutFrame : SeenFrame
  OsiFrame : (to from pdu : List ℕ) → SeenFrame

-- A frame with an OSI PDU: destination and source, the length of what follows them (ISO 8802-3), the octets that tell an
-- OSI network layer PDU (ISO 8802-2), and the PDU.
abbrev pub frame_octets : (to from pdu : List ℕ) → List ℕ
frame_octets to from pdu = to ++ (from ++ (big_bytes 2 (length pdu + 3) ++ (254 ∷ 254 ∷ 3 ∷ pdu)))

-- destination and source have six octets each, and the PDU at most 1,497
pub record IsOsiFrame (to from pdu : List ℕ) : Type 0 where
  pub to_size : length to ≡ 6
  pub from_size : length from ≡ 6
  pub few : length pdu ≤ 1497

-- the length that a frame tells, behind destination and source
abbrev pub told_length : List ℕ → ℕ
told_length octets = big_number 2 (drop 12 octets)

-- FE FE 03 stand behind the length
abbrev pub tells_osi : List ℕ → Bool
tells_osi octets = (slice_index octets 14 == 254) && ((slice_index octets 15 == 254) && (slice_index octets 16 == 3))

-- a frame whose length is 3 to 1,500, with the octets of OSI behind it
abbrev pub is_osi : List ℕ → Bool
is_osi octets =
    nat_le 17 (length octets) && (nat_le 3 (told_length octets) && (nat_le (told_length octets) 1500 && tells_osi octets))

-- what is seen in the octets of a frame
unfoldable pub seen_in : List ℕ → SeenFrame
seen_in octets =
    if is_osi octets then
    (if nat_lt (length octets) (14 + told_length octets) then CutFrame
    else OsiFrame (take 6 octets) (take 6 (drop 6 octets)) (take (told_length octets - 3) (drop 17 octets)))
    else OtherFrame
