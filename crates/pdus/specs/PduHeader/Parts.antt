-- What a header is made from, as a value, and when it can't be made.
use Rattle.std.specs.Prelude.{ℕ, ◌+◌, ◌^◌, ◌<◌, nat_lt, Bool, if◌then◌else◌, List, [], Option, None, Some, option_map}
use Rattle.pdus.specs.Fletcher.Checksum.{sealed}
use Rattle.pdus.specs.ClnpOptions.Parameter.{parameters}
use Rattle.pdus.specs.Nsap.Address.{IsAddress}
use Rattle.pdus.specs.ClnpOptions.Grammar.{FitsKind}
use Rattle.pdus.specs.ClnpOptions.Rules.{IsWellFormed}
use Rattle.pdus.specs.declared.pdu_header.parts.Parts.{Parts}
use Rattle.pdus.specs.declared.pdu_header.header.HeaderRefusal.{HeaderRefusal}
use Rattle.pdus.specs.declared.pdu_header.header.HeaderRefusal.TheVariants.{HeaderTooLong, TotalTooLong}
use Rattle.pdus.specs.PduHeader.Layout.{most_header, most_total}
use Rattle.pdus.specs.PduHeader.Value.{SegmentationPart, PduValue}
pub use Rattle.pdus.specs.PduHeader.Segment.{FitsRange, FitsSegment}
use Rattle.pdus.specs.PduHeader.View.{part_value}
use Rattle.pdus.specs.PduHeader.Spelling.{header_length}
use Rattle.pdus.specs.PduHeader.Grammar.{is_report}

-- the value of a PDU with a header made from these parts, and this body
abbrev pub parts_value : Parts → List ℕ → PduValue
parts_value parts body = record {
  kind = parts.kind;
  lifetime = parts.life;
  report = parts.report;
  sealed = parts.sealed;
  more = parts.more;
  destination = parts.to;
  source = parts.from;
  segmentation = option_map part_value parts.seg;
  options = parameters parts.options;
  body = body;
}

-- the length of the header, which doesn't depend on the body
abbrev pub parts_length : Parts → ℕ
parts_length parts = header_length (parts_value parts [])

-- with a body of so many octets the parts break no rule but those on the lengths
pub record AreFit (parts : Parts) (body_len : ℕ) : Type 0 where
  pub segment : FitsSegment (parts_length parts) body_len parts.more (option_map part_value parts.seg)
  -- a reason for discard stands in an error report, and in no other PDU (section 7.9.5)
  pub reason : FitsKind (is_report parts.kind) (parameters parts.options)

-- numbers of two octets, where there is a segmentation part
abbrev pub AreNumbers : Option SegmentationPart → Type 0
AreNumbers None = Unit {0}
AreNumbers (Some part) = (part.identifier < 2 ^ 16) × (part.offset < 2 ^ 16) × (part.total < 2 ^ 16)

-- what the types of the parts say
pub record AreTyped (parts : Parts) : Type 0 where
  pub lifetime : parts.life < 256
  pub destination : IsAddress parts.to
  pub source : IsAddress parts.from
  pub numbers : AreNumbers (option_map part_value parts.seg)
  pub options : IsWellFormed parts.options

-- which length is too long: the header's, above 254, or else that of header and body, above 65,535
abbrev pub too_long : ℕ → ℕ → Option HeaderRefusal
too_long header_len body_len =
    if nat_lt most_header header_len then Some (HeaderTooLong header_len)
    else (if nat_lt most_total (header_len + body_len) then Some (TotalTooLong (header_len + body_len)) else None)

-- a header with a checksum, or without one
abbrev pub checked : Bool → List ℕ → List ℕ
checked is_sealed plain = if is_sealed then sealed plain else plain
