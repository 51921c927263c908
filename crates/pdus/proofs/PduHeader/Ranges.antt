-- Where a PDU's data stand in those of its unit.
use Rattle.std.proofs.Common.{◌≡◌, subst, ℕ, ◌+◌, ◌-◌, Bool, false, Some, length}
use Rattle.std.specs.Prelude.{◌↔◌, nat_lt}
use Rattle.pdus.specs.PduHeader.Value.{SegmentationPart, PduValue}
use Rattle.pdus.specs.PduHeader.Segment.{FitsRange}
use Rattle.pdus.specs.PduHeader.Spelling.{header_length}
use Rattle.pdus.specs.PduHeader.Grammar.{FitsUnit, IsPdu, IsSegment}
use Rattle.pdus.specs.PduHeader.Rules.{is_unfit_range}
use Rattle.pdus.proofs.PduHeader.Accepted.{good_range, range_is_good}
use Rattle.clnp_base.proofs.Choices.{flag_is}

pub fits_where_tested : (head_len data_len : ℕ) (more : Bool) (part : SegmentationPart) → (is_unfit_range head_len part.total (part.offset + data_len) more ≡ false) ↔ FitsRange head_len data_len more part
fits_where_tested head_len data_len more part = (
  λ h. let good = good_range head_len part.total (part.offset + data_len) more h in record { holds_header = good.holds_header; within = good.within; ends = good.ends },
  λ k. range_is_good head_len part.total (part.offset + data_len) more (record { holds_header = k.holds_header; within = k.within; ends = k.ends }),
)

pub more_is : (v : PduValue) (part : SegmentationPart) → IsPdu v → v.segmentation ≡ Some part → v.more ≡ nat_lt (part.offset + length v.body) (part.total - header_length v)
more_is v part h has =
    let fits : FitsUnit v part = subst (IsSegment v) has h.segmentation in
    flag_is v.more (part.offset + length v.body) (part.total - header_length v) fits.range.within fits.range.ends
