-- Cutting a PDU into segments: their headers by the header of the PDU alone, and where they stand in its data.
use Rattle.std.proofs.Common.{◌≡◌, ◌∙◌, sym, ap, subst, ℕ, ◌+◌, ◌-◌, ◌^◌, ◌<◌, ◌≤◌, Option, None, Some, List, ◌∷◌, ◌++◌, length, take, drop, replicate, arith, length-take, length-drop}
use Rattle.std.specs.Prelude.{nat_lt, if◌then◌else◌}
use Rattle.std.proofs.lemmas.List.{length-replicate}
use Rattle.std.proofs.lemmas.Bool.Decides.{nat_tests}
use Rattle.pdus.specs.Fletcher.Checksum.{sealed}
use Rattle.pdus.specs.PduHeader.Value.{SegmentationPart, PduValue}
use Rattle.pdus.specs.PduHeader.Spelling.{flags_and_type, header, header_length, pair_of, variable_part}
use Rattle.pdus.specs.PduHeader.Grammar.{IsPdu, IsSegment}
use Rattle.pdus.specs.PduHeader.Parts.{FitsRange}
use Rattle.pdus.specs.PduHeader.Headers.{SpellsHeader, at_offset, with_segment}
use Rattle.pdus.specs.PduHeader.Reading.{value_of}
use Rattle.pdus.specs.MadePdus.Range.{Range}
use Rattle.pdus.specs.MadePdus.Cut.{segment}
use Rattle.pdus.specs.MadePdus.Left.{of_zeros}
use Rattle.pdus.proofs.MadePdus.Segments.{unit_fits}

-- ---- what a header tells

-- the header of a value whose body has n octets
with_length : PduValue → ℕ → List ℕ
with_length v n =
    let bare : List ℕ = 0x81 ∷ header_length v ∷ 1 ∷ v.lifetime ∷ flags_and_type v ∷ (pair_of (header_length v + n) ++ (0 ∷ 0 ∷ variable_part v)) in
    if v.sealed then sealed bare else bare

-- of the body a header has the length alone
pub header_by_length : (v : PduValue) (a b : List ℕ) → length a ≡ length b
    → header (record v { body = a }) ≡ header (record v { body = b })
unfolding with_length
header_by_length v a b e = ap (with_length v) e

-- the length of a range's data
pub length-range : (range : Range) (a b : List ℕ) → length a ≡ length b → length (take range.len (drop range.from a)) ≡ length (take range.len (drop range.from b))
length-range range a b e =
    omega (arith, length-take range.len (drop range.from a), length-take range.len (drop range.from b), length-drop range.from a, length-drop range.from b)

-- the law that a header tells its value
abbrev pub Tells : Type 0
Tells = (v : PduValue) (octets : List ℕ) → SpellsHeader v octets → v ≡ value_of octets v.body

-- the header of a segment, by the header of the PDU and the length of its data alone
pub segment_header_is : Tells → (v : PduValue) (octets : List ℕ) (len : ℕ) (part : SegmentationPart) (range : Range) → SpellsHeader v octets → length v.body ≡ len
    → header (segment v part range) ≡ header (segment (of_zeros octets len) part range)
unfolding of_zeros
segment_header_is tells v octets len part range h e =
    let zeros : List ℕ = replicate len 0 in
    let w : PduValue = segment (value_of octets v.body) part range in
    ap (λ (x : PduValue). header (segment x part range)) (tells v octets h)
    ∙ header_by_length w (take range.len (drop range.from v.body)) (take range.len (drop range.from zeros))
    (length-range range v.body zeros (e ∙ sym (length-replicate len 0)))

-- ---- the PDU of zeros is as good as the PDU

segment_by_length : (v : PduValue) (a b : List ℕ) → length a ≡ length b → (part : Option SegmentationPart)
    → IsSegment (record v { body = a }) part → IsSegment (record v { body = b }) part
segment_by_length v a b e None h = h
segment_by_length v a b e (Some part) h = record {
  identifier = h.identifier;
  offset = h.offset;
  total = h.total;
  range = record {
    holds_header = h.range.holds_header;
    within = let within = h.range.within in rw (← e) within;
    ends = let ends = h.range.ends in rw (← e) ends;
  };
}

pdu_by_length : (v : PduValue) (a b : List ℕ) → length a ≡ length b → IsPdu (record v { body = a }) → IsPdu (record v { body = b })
pdu_by_length v a b e h = record {
  lifetime = h.lifetime;
  destination = h.destination;
  source = h.source;
  segmentation = segment_by_length v a b e v.segmentation h.segmentation;
  options = h.options;
  reason = h.reason;
  header_fits = h.header_fits;
  segment_fits = let fits = h.segment_fits in rw (← e) fits;
}

pub zeros_spelled : Tells → (v : PduValue) (octets : List ℕ) (len : ℕ) → SpellsHeader v octets → length v.body ≡ len → SpellsHeader (of_zeros octets len) octets
unfolding of_zeros
zeros_spelled tells v octets len h e =
    let zeros : List ℕ = replicate len 0 in
    let w : PduValue = value_of octets v.body in
    let is : v ≡ w = tells v octets h in
    let same : length v.body ≡ length zeros = e ∙ sym (length-replicate len 0) in
    record {
      pdu = pdu_by_length w v.body zeros same (subst IsPdu is h.pdu);
      octets_are = h.octets_are ∙ ap (λ (x : PduValue). header x) is ∙ header_by_length w v.body zeros same;
    }

pub part_of_zeros : Tells → (v : PduValue) (octets : List ℕ) (len : ℕ) → SpellsHeader v octets → (of_zeros octets len).segmentation ≡ v.segmentation
unfolding of_zeros
part_of_zeros tells v octets len h = sym (ap (λ (x : PduValue). x.segmentation) (tells v octets h))

pub length-zeros : (octets : List ℕ) (len : ℕ) → length (of_zeros octets len).body ≡ len
unfolding of_zeros
length-zeros octets len = length-replicate len 0

-- ---- segments lie in their unit

pub range_fits : (v : PduValue) (part : SegmentationPart) (from len : ℕ) → IsPdu v → v.segmentation ≡ Some part → from + len ≤ length v.body
    → FitsRange (header_length v) len (nat_lt (part.offset + from + len) (part.total - header_length v)) (at_offset (part.offset + from) part)
range_fits v part from len h has within =
    let unit = unit_fits v part has h in
    let ends : part.offset + from + len ≤ part.total - header_length v = omega (arith, unit.range.within) in
    record {
      holds_header = unit.range.holds_header;
      within = ends;
      ends = ((λ e. grind (arith, nat_tests)), (λ e. grind (arith, nat_tests)));
    }

-- what arithmetic on a range of a PDU with a segmentation part needs
pub record IsRoomy (v : PduValue) (part : SegmentationPart) (from len : ℕ) : Type 0 where
  pub offset_fits : part.offset + from < 2 ^ 16
  pub len_fits : len < 2 ^ 16
  pub holds_header : header_length v ≤ part.total

pub roomy : (v : PduValue) (part : SegmentationPart) (from len : ℕ) → IsPdu v → v.segmentation ≡ Some part → from + len ≤ length v.body → IsRoomy v part from len
roomy v part from len h has within =
    let unit = unit_fits v part has h in
    record {
      offset_fits = omega (arith, unit.range.within, unit.total);
      len_fits = omega (arith, unit.range.within, unit.total);
      holds_header = unit.range.holds_header;
    }

-- the same, as the code computes it
pub carried : (v : PduValue) (part : SegmentationPart) (from len offset total head_len : ℕ) → IsPdu v → v.segmentation ≡ Some part → from + len ≤ length v.body
    → offset ≡ part.offset → total ≡ part.total → head_len ≡ header_length v
    → FitsRange (header_length v) len (nat_lt (offset + from + len) (total - head_len)) (at_offset (offset + from) part)
carried v part from len offset total head_len h has within a b c = rw (a, b, c) (range_fits v part from len h has within)

pub as_segment : (v : PduValue) (part : SegmentationPart) (from len offset total head_len : ℕ) (octets : List ℕ)
    → offset ≡ part.offset → total ≡ part.total → head_len ≡ header_length v
    → SpellsHeader (with_segment (at_offset (offset + from) part) (nat_lt (offset + from + len) (total - head_len)) (take len (drop from v.body)) v) octets
    → SpellsHeader (segment v part (record { from = from; len = len })) octets
as_segment v part from len offset total head_len octets a b c h = rw (a, b, c) at h
