-- Which octets are a PDU: a relation between a value and its octets, by parts (ISO 8473, section 7).
use Rattle.std.specs.Prelude.{◌≡◌, ℕ, ◌^◌, ◌<◌, ◌≤◌, Bool, true, false, List, ◌++◌, length, Option, None, Some}
use Rattle.pdus.specs.Nsap.Address.{IsAddress}
use Rattle.pdus.specs.ClnpOptions.Grammar.{AreFormed, FitsKind}
use Rattle.pdus.specs.declared.pdu_header.kind.Kind.{Kind}
use Rattle.pdus.specs.declared.pdu_header.kind.Kind.TheVariants.{Dt, Er, Erq, Erp}
use Rattle.pdus.specs.PduHeader.Layout.{most_header}
use Rattle.pdus.specs.PduHeader.Value.{SegmentationPart, PduValue}
use Rattle.pdus.specs.PduHeader.Segment.{FitsRange}
use Rattle.pdus.specs.PduHeader.Spelling.{spelling, header_length, segment_length}

abbrev pub is_report : Kind → Bool
is_report Er = true
is_report Dt = false
is_report Erq = false
is_report Erp = false

-- the numbers have two octets each, and the PDU's data fit its unit (section 7.4)
pub record FitsUnit (v : PduValue) (part : SegmentationPart) : Type 0 where
  pub identifier : part.identifier < 2 ^ 16
  pub offset : part.offset < 2 ^ 16
  pub total : part.total < 2 ^ 16
  pub range : FitsRange (header_length v) (length v.body) v.more part

-- without a segmentation part nothing follows
abbrev pub IsSegment : PduValue → Option SegmentationPart → Type 0
IsSegment v None = v.more ≡ false
IsSegment v (Some part) = FitsUnit v part

-- what a value must be so that a PDU can carry it
pub record IsPdu (v : PduValue) : Type 0 where
  pub lifetime : v.lifetime < 256
  pub destination : IsAddress v.destination
  pub source : IsAddress v.source
  pub segmentation : IsSegment v v.segmentation
  pub options : AreFormed v.options
  -- a reason for discard stands in an error report, and in no other PDU (section 7.9.5)
  pub reason : FitsKind (is_report v.kind) v.options
  pub header_fits : header_length v ≤ most_header
  pub segment_fits : segment_length v < 2 ^ 16

pub record Spells (v : PduValue) (octets : List ℕ) : Type 0 where
  pub pdu : IsPdu v
  pub octets_are : octets ≡ spelling v

-- the frame is a PDU of this value, and then the rest
pub record BeginsWith (frame : List ℕ) (v : PduValue) (rest : List ℕ) : Type 0 where
  pub octets : List ℕ
  pub spells : Spells v octets
  pub split : frame ≡ octets ++ rest
