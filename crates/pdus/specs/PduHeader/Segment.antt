-- Where a PDU's data stand in those of its unit (ISO 8473, section 7.4).
use Rattle.std.specs.Prelude.{◌≡◌, ◌↔◌, ℕ, ◌+◌, ◌-◌, ◌≤◌, Bool, false, Option, None, Some}
use Rattle.pdus.specs.PduHeader.Value.{SegmentationPart}

-- So many octets of data, behind a header of its length, lie in their unit, and more follows exactly where they don't
-- reach the unit's end.
pub record FitsRange (header_len data_len : ℕ) (more : Bool) (part : SegmentationPart) : Type 0 where
  pub holds_header : header_len ≤ part.total
  pub within : part.offset + data_len ≤ part.total - header_len
  pub ends : (more ≡ false) ↔ (part.offset + data_len ≡ part.total - header_len)

-- without a segmentation part nothing follows
abbrev pub FitsSegment : ℕ → ℕ → Bool → Option SegmentationPart → Type 0
FitsSegment header_len data_len more None = more ≡ false
FitsSegment header_len data_len more (Some part) = FitsRange header_len data_len more part
