-- What is claimed of the pieces of a PDU.
use Rattle.std.specs.Prelude.{◌≡◌, ◌↔◌, ℕ, ◌+◌, ◌/◌, ◌%◌, ◌≤◌, ◌<◌, Bool, true, List, [], ◌∷◌, map, Option, None, Some, option_map, IsTrue}
use Rattle.std.specs.List.{AllByRecursion}
use Rattle.pdus.specs.PduHeader.Value.{SegmentationPart, PduValue}
use Rattle.pdus.specs.PduHeader.Spelling.{segment_length}
use Rattle.pdus.specs.MadePdus.Range.{Range, holds}
use Rattle.pdus.specs.MadePdus.Cut.{Piece, segment, nth_range}

abbrev pub AreMtus : List ℕ → Type 0
AreMtus mtus = AllByRecursion (λ mtu. 512 ≤ mtu) mtus

abbrev pub ranges_of : List Piece → List Range
ranges_of pieces = map (λ piece. piece.range) pieces

-- the PDU of a range of a PDU's data: without a segmentation part it is that PDU alone
abbrev pub segment_at : PduValue → Option SegmentationPart → Range → PduValue
segment_at v None range = v
segment_at v (Some part) range = segment v part range

-- the piece is the segment that its range is of the PDU's data
abbrev pub IsSegmentOf : PduValue → Piece → Type 0
IsSegmentOf v piece = piece.value ≡ segment_at v v.segmentation piece.range

-- a place of the data lies in the range with a number exactly where the quotient by the room is the number
abbrev pub HasRoomOf : (room len place number : ℕ) → Type 0
HasRoomOf room len place number =
    IsTrue (holds place (nth_range room len number)) ↔ ((place < len) × (place / room ≡ number))

abbrev pub Fits : ℕ → Piece → Type 0
Fits mtu piece = segment_length piece.value ≤ mtu

-- each but the last is full: its data are a multiple of 8 octets, at least 8, and 8 octets more would not fit the MTU
abbrev pub FillUp : ℕ → List Piece → Type 0
FillUp mtu [] = Unit {0}
FillUp mtu (piece ∷ []) = Unit {0}
FillUp mtu (piece ∷ next ∷ others) =
    (piece.range.len % 8 ≡ 0) × (8 ≤ piece.range.len) × (mtu < segment_length piece.value + 8) × FillUp mtu (next ∷ others)

-- set for each but the last, which has the one given
abbrev pub marks : Bool → List Piece → List Bool
marks last [] = []
marks last (piece ∷ []) = last ∷ []
marks last (piece ∷ next ∷ others) = true ∷ marks last (next ∷ others)

-- identifier and total length are those of the PDU
abbrev pub unit_of : PduValue → Option (ℕ × ℕ)
unit_of v = option_map (λ part. (part.identifier, part.total)) v.segmentation

abbrev pub KeepsUnit : PduValue → Piece → Type 0
KeepsUnit v piece = unit_of piece.value ≡ unit_of v
