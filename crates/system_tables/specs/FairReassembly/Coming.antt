-- PDUs that come: the value of one, whether it is all of its unit, and the segment that it is (ISO 8473, sections 6.8 and 7.4).
use Rattle.std.specs.Prelude.{ℕ, ◌+◌, ◌==◌, ◌&&◌, not, if◌then◌else◌, Bool, List, length, Option, None, Some, is_none}
use Rattle.pdus.specs.ClnpViews.Extent.{Extent, part, whole}
use Rattle.pdus.specs.declared.pdu_header.pdu.Pdu.{Pdu}
use Rattle.pdus.specs.declared.pdu_header.pdu.SegPart.{SegPart}
use Rattle.pdus.specs.PduHeader.Reading.{body_of, value_of}
use Rattle.pdus.specs.PduHeader.Rules.{header_of}
use Rattle.pdus.specs.PduHeader.Spelling.{header_length, segment_length, type_code}
use Rattle.pdus.specs.PduHeader.Value.{PduValue, SegmentationPart}
use Rattle.pdus.specs.PduHeader.View.{why_refused}
use Rattle.system_tables.specs.declared.reassembly.segment.Segment.{Segment}
use Rattle.system_tables.specs.declared.fair_reassembly.outline.Outline.{Outline}

-- whether a PDU stands at the front of a frame
abbrev pub is_accepted : List ℕ → Bool
is_accepted frame = is_none (why_refused frame)

-- the value of the PDU at the front of a frame
unfoldable pub value_in : List ℕ → PduValue
value_in frame = value_of (header_of frame) (body_of frame)

-- the segmentation part of a PDU that isn't all of its unit
abbrev pub part_in : Option SegmentationPart → Bool → Option SegmentationPart
part_in None more = None
part_in (Some found) more = if (found.offset == 0) && not more then None else Some found

abbrev pub part_of : PduValue → Option SegmentationPart
part_of v = part_in v.segmentation v.more

-- the segment that the PDU of a value is, which stands at the front of a frame
abbrev pub segment_in : List ℕ → PduValue → SegmentationPart → Segment
segment_in frame v found =
    record {
      key = record { from = v.source; to = v.destination; id = found.identifier };
      shape = record { total = found.total; head_len = header_length v; kind = type_code v.kind };
      offset = found.offset;
      life = v.lifetime;
      pdu = part 0 (segment_length v) (whole frame);
    }

-- The same of what the code has.

abbrev pub of_unit : Option SegPart → Bool → Option SegPart
of_unit None more = None
of_unit (Some found) more = if (found.offset == 0) && not more then None else Some found

-- what a PDU says of the segment that it is
abbrev pub outlined : Pdu → SegPart → Outline
outlined pdu found =
    record {
      key = record { from = pdu.from; to = pdu.to; id = found.id };
      shape = record { total = found.total; head_len = length pdu.head.now; kind = type_code pdu.kind };
      offset = found.offset;
      life = pdu.life;
      octets = length pdu.head.now + length pdu.body.now;
    }

-- the segment of which so much was said, at the front of a view
abbrev pub segment_by : Outline → Extent → Segment
segment_by outline view =
    record {
      key = outline.key;
      shape = outline.shape;
      offset = outline.offset;
      life = outline.life;
      pdu = part 0 outline.octets view;
    }
