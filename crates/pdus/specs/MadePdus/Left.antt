-- The pieces of a PDU that are left to be given, from what the iterator of them holds.
use Rattle.std.specs.Prelude.{◌≡◌, ℕ, ◌+◌, ◌*◌, ◌^◌, ◌<◌, ◌≤◌, List, length, map, replicate, Option, None, Some}
use Rattle.std.specs.List.{range_with_len}
use Rattle.pdus.specs.declared.pdu_header.pdu.SegPart.{SegPart}
use Rattle.pdus.specs.PduHeader.Value.{PduValue}
use Rattle.pdus.specs.PduHeader.View.{part_value}
use Rattle.pdus.specs.PduHeader.Spelling.{header}
use Rattle.pdus.specs.PduHeader.Headers.{SpellsHeader}
use Rattle.pdus.specs.PduHeader.Reading.{value_of}
use Rattle.pdus.specs.declared.made_pdus.cuts.Cut.{Cut}
use Rattle.pdus.specs.declared.made_pdus.cuts.Cuts.TheInside.{Inside}
use Rattle.pdus.specs.MadePdus.Range.{Range}
use Rattle.pdus.specs.MadePdus.Cut.{nth_range, segment}

-- The PDU of a header whose data are so many zeros. Of what the data hold no header tells anything.
unfoldable pub of_zeros : List ℕ → ℕ → PduValue
of_zeros head len = value_of head (replicate len 0)

-- the header of the piece of a range; without a segmentation part the PDU is its own single piece
unfoldable pub piece_header : List ℕ → ℕ → Option SegPart → Range → List ℕ
piece_header head len None range = head
piece_header head len (Some part) range = header (segment (of_zeros head len) (part_value part) range)

-- a piece by its number
abbrev pub nth_cut : Inside → ℕ → Cut
nth_cut s number =
    let range = nth_range s.room s.body_len number in
    record { head = piece_header s.head s.body_len s.part range; from = range.from; len = range.len }

abbrev pub cuts_left : Inside → List Cut
cuts_left s = map (nth_cut s) (range_with_len s.number s.left)

-- a segmentation part is that of the PDU
abbrev pub IsPartOf : PduValue → Option SegPart → Type 0
IsPartOf v None = Unit {0}
IsPartOf v (Some part) = v.segmentation ≡ Some (part_value part)

-- The header is that of a PDU with so many octets of data, and each piece begins in them, or at their end. There is one piece,
-- with all the data, where the PDU is not cut, and else there are several.
pub record IsCutting (s : Inside) : Type 0 where
  pub spells : SpellsHeader (of_zeros s.head s.body_len) s.head
  pub part : IsPartOf (of_zeros s.head s.body_len) s.part
  pub begins : (number : ℕ) → number < s.number + s.left → number * s.room ≤ s.body_len
  pub few : s.number + s.left < 2 ^ 64
  pub single : s.part ≡ None → (s.number + s.left ≡ 1) × (s.room ≡ s.body_len)
  pub several : (part : SegPart) → s.part ≡ Some part → (0 < s.room) × (1 < s.number + s.left)

-- a piece lies in so many octets of data, and its header is that of a PDU with its data
pub record IsCutOf (body_len : ℕ) (cut : Cut) : Type 0 where
  pub within : cut.from + cut.len ≤ body_len
  pub spells : (v : PduValue) × SpellsHeader v cut.head × (length v.body ≡ cut.len)
