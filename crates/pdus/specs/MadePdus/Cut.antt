-- A PDU cut into segments that fit an MTU (ISO 8473, section 6.7).
use Rattle.std.specs.Prelude.{ℕ, ◌+◌, ◌-◌, ◌*◌, ◌/◌, min, nat_le, nat_lt, if◌then◌else◌, List, [], ◌∷◌, ◌++◌, length, map, take, drop, Option, None, Some, option_map}
use Rattle.std.specs.List.{range_with_len}
use Rattle.pdus.specs.PduHeader.Value.{SegmentationPart, PduValue}
use Rattle.pdus.specs.PduHeader.Spelling.{header, header_length, segment_length}
use Rattle.pdus.specs.PduHeader.Headers.{at_offset, with_segment}
use Rattle.pdus.specs.MadePdus.Range.{Range}
use Rattle.pdus.specs.declared.made_pdus.cuts.Cut.{Cut}

-- how many octets of data a segment has, but for the last: the greatest multiple of 8 not above what the MTU
-- leaves behind the header
abbrev pub data_room : (header_len mtu : ℕ) → ℕ
data_room header_len mtu = (mtu - header_len) / 8 * 8

-- The places, among `len` ones from 0, of the segment with a number from 0: those whose quotient by the room is the number.
abbrev pub nth_range : (room len number : ℕ) → Range
nth_range room len number = record { from = number * room; len = min room (len - number * room) }

-- the ranges of all segments, in order
abbrev pub ranges : (room len : ℕ) → List Range
ranges room len = map (nth_range room len) (range_with_len 0 ((len + room - 1) / room))

-- A range of a PDU's data as a segment of its own: its offset is moved on, more follows where the unit goes on behind
-- it, and everything else stays.
abbrev pub segment : PduValue → SegmentationPart → Range → PduValue
segment v part range =
    with_segment (at_offset (part.offset + range.from) part)
    (nat_lt (part.offset + range.from + range.len) (part.total - header_length v))
    (take range.len (drop range.from v.body)) v

-- a PDU that comes of cutting, and the places of its data in the data of the PDU that was cut
pub record Piece : Type 0 where
  pub value : PduValue
  pub range : Range

-- a PDU as its own single piece
abbrev pub whole_range : PduValue → Range
whole_range v = record { from = 0; len = length v.body }

abbrev pub uncut : PduValue → Piece
uncut v = record { value = v; range = whole_range v }

abbrev pub segments : PduValue → ℕ → SegmentationPart → List Piece
segments v mtu part =
    map (λ range. record { value = segment v part range; range = range }) (ranges (data_room (header_length v) mtu) (length v.body))

-- The pieces of a PDU for an MTU: itself where it fits, else its segments; none where it may not be segmented.
abbrev pub cut : PduValue → ℕ → Option (List Piece)
cut v mtu =
    if nat_le (segment_length v) mtu then Some (uncut v ∷ [])
    else option_map (segments v mtu) v.segmentation

-- a piece of a piece, with its places in the data of the PDU that was cut first
abbrev pub within : Range → Piece → Piece
within outer piece =
    record piece { range = record { from = outer.from + piece.range.from; len = piece.range.len } }

abbrev pub both : Option (List Piece) → Option (List Piece) → Option (List Piece)
both (Some first) (Some others) = Some (first ++ others)
both None _ = None
both (Some first) None = None

-- each of some pieces cut again for an MTU, in order
abbrev pub cut_each : ℕ → List Piece → Option (List Piece)
cut_each mtu [] = Some []
cut_each mtu (piece ∷ others) =
    both (option_map (map (within piece.range)) (cut piece.value mtu)) (cut_each mtu others)

-- pieces cut for one MTU after another, as on their way through subnetworks
abbrev pub cut_through : List ℕ → Option (List Piece) → Option (List Piece)
cut_through [] pieces = pieces
cut_through (mtu ∷ mtus) None = None
cut_through (mtu ∷ mtus) (Some pieces) = cut_through mtus (cut_each mtu pieces)

-- a piece as the code gives it: the octets of its header, and where its data stand
abbrev pub given : Piece → Cut
given piece = record { head = header piece.value; from = piece.range.from; len = piece.range.len }
