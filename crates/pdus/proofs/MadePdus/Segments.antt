-- The segments of a PDU are PDUs, and a segment of a segment is a segment.
use Rattle.std.proofs.Common.{◌≡◌, ◌∙◌, refl, sym, ap, subst, ℕ, ◌+◌, ◌-◌, ◌≤◌, Bool, false, Some, List, ◌++◌, length, length-append, add-zero, arith}
use Rattle.std.specs.Prelude.{◌↔◌, nat_lt}
use Rattle.std.proofs.lemmas.Bool.{ltb-false, le-ltb}
use Rattle.std.proofs.lemmas.List.{take_all}
use Rattle.pdus.specs.ClnpOptions.Parameter.{spelled}
use Rattle.pdus.specs.PduHeader.Value.{SegmentationPart, PduValue}
use Rattle.pdus.specs.PduHeader.Spelling.{counted, header_length, segmentation_octets}
use Rattle.pdus.specs.PduHeader.Grammar.{FitsUnit, IsSegment, IsPdu}
use Rattle.pdus.specs.PduHeader.Headers.{at_offset, with_segment}
use Rattle.pdus.specs.MadePdus.Range.{Range}
use Rattle.pdus.specs.MadePdus.Cut.{segment, whole_range}
use Rattle.clnp_base.proofs.Lists.{length_part, part_of_part}
use Rattle.clnp_base.proofs.Choices.{flag_is}

-- ---- the flag that more follows

pub last_ends : (a b : ℕ) → a ≤ b → (nat_lt a b ≡ false) ↔ (a ≡ b)
last_ends a b h = ((λ e. let k = ltb-false a b e in omega arith), (λ e. le-ltb a b (omega arith)))

-- ---- a segment

pub header_length-segment : (v : PduValue) (part : SegmentationPart) (range : Range) → v.segmentation ≡ Some part → header_length (segment v part range) ≡ header_length v
header_length-segment v part range has =
    let new : List ℕ = segmentation_octets (Some (at_offset (part.offset + range.from) part)) in
    let old : List ℕ = segmentation_octets v.segmentation in
    let same : length new ≡ length old = ap (λ o. length (segmentation_octets o)) (sym has) in
    omega (arith, same, length-append v.destination (counted v.source ++ (new ++ spelled v.options)), length-append v.destination (counted v.source ++ (old ++ spelled v.options)), length-append v.source (new ++ spelled v.options), length-append v.source (old ++ spelled v.options), length-append new (spelled v.options), length-append old (spelled v.options))

pub unit_fits : (v : PduValue) (part : SegmentationPart) → v.segmentation ≡ Some part → IsPdu v → FitsUnit v part
unit_fits v part has h = subst (IsSegment v) has h.segmentation

pub segment_in_unit : (v : PduValue) (part : SegmentationPart) (from len size head : ℕ) (w : PduValue)
    → header_length v ≡ head → length v.body ≡ size → FitsUnit v part → from + len ≤ size
    → header_length w ≡ head → length w.body ≡ len → w.more ≡ nat_lt (part.offset + from + len) (part.total - head)
    → FitsUnit w (at_offset (part.offset + from) part)
segment_in_unit v part from len size head w v_head v_size fits within w_head w_len w_more =
    let holds : head ≤ part.total = rw v_head at fits.range.holds_header in
    let inside : part.offset + size ≤ part.total - head = rw (v_head, v_size) at fits.range.within in
    let total = fits.total in
    let ends = last_ends (part.offset + from + len) (part.total - head) (omega arith) in
    record {
      identifier = fits.identifier;
      offset = omega arith;
      total = fits.total;
      range = record {
        holds_header = rw w_head holds;
        within = rw (w_head, w_len) (omega arith);
        ends = rw (w_head, w_len, w_more) ends;
      };
    }

pub segment_is_pdu : (v : PduValue) (part : SegmentationPart) (range : Range) → v.segmentation ≡ Some part → IsPdu v → range.from + range.len ≤ length v.body → IsPdu (segment v part range)
segment_is_pdu v part range has h within =
    let same = header_length-segment v part range has in
    let len = length_part v.body range.from range.len within in
    let fits = h.segment_fits in
    record {
      lifetime = h.lifetime;
      destination = h.destination;
      source = h.source;
      segmentation = segment_in_unit v part range.from range.len (length v.body) (header_length v) (segment v part range) refl refl (unit_fits v part has h) within same len refl;
      options = h.options;
      reason = h.reason;
      header_fits = rw same h.header_fits;
      segment_fits = rw (same, len) (omega arith);
    }

-- ---- the whole as a segment, and a segment of a segment

same_segment : (v : PduValue) (part : SegmentationPart) (offset other : ℕ) (more flag : Bool) (body octets : List ℕ) → offset ≡ other → more ≡ flag → body ≡ octets
    → with_segment (at_offset offset part) more body v ≡ with_segment (at_offset other part) flag octets v
same_segment v part offset other more flag body octets o m b =
    ap (λ t. with_segment (at_offset t part) more body v) o
    ∙ ap (λ t. with_segment (at_offset other part) t body v) m
    ∙ ap (λ t. with_segment (at_offset other part) flag t v) b

pub whole_is_segment : (v : PduValue) (part : SegmentationPart) → v.segmentation ≡ Some part → IsPdu v → v ≡ segment v part (whole_range v)
whole_is_segment v part has h =
    let fits = unit_fits v part has h in
    let more : v.more ≡ nat_lt (part.offset + 0 + length v.body) (part.total - header_length v) =
    rw (add-zero part.offset) (flag_is v.more (part.offset + length v.body) (part.total - header_length v) fits.range.within fits.range.ends) in
    let own : v ≡ with_segment part v.more v.body v = ap (λ o. record v { segmentation = o }) has in
    own ∙ same_segment v part part.offset (part.offset + 0) v.more _ v.body _ (omega arith) more (sym (take_all (length v.body) v.body (omega arith)))

pub segment_of_segment : (v : PduValue) (part : SegmentationPart) (outer inner : Range) → v.segmentation ≡ Some part → inner.from + inner.len ≤ outer.len
    → segment (segment v part outer) (at_offset (part.offset + outer.from) part) inner ≡ segment v part (record { from = outer.from + inner.from; len = inner.len })
segment_of_segment v part outer inner has within =
    let offset : part.offset + outer.from + inner.from ≡ part.offset + (outer.from + inner.from) = omega arith in
    let same = header_length-segment v part outer has in
    same_segment v part (part.offset + outer.from + inner.from) (part.offset + (outer.from + inner.from)) _ _ _ _ offset
    (ap (λ t. nat_lt (part.offset + outer.from + inner.from + inner.len) (part.total - t)) same
    ∙ ap (λ t. nat_lt (t + inner.len) (part.total - header_length v)) offset)
    (part_of_part v.body outer.from outer.len inner.from inner.len within)
