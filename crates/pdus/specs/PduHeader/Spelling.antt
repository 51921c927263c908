-- The octets that spell a PDU value (ISO 8473, section 7).
use Rattle.std.specs.Prelude.{ℕ, ◌+◌, if◌then◌else◌, List, [], ◌∷◌, ◌++◌, length, Option, Some, None, is_some}
use Rattle.std.specs.Int.{to_be_bytes, w16}
use Rattle.pdus.specs.Fletcher.Checksum.{sealed}
use Rattle.pdus.specs.ClnpOptions.Parameter.{spelled}
use Rattle.pdus.specs.PduHeader.Layout.{protocol, version, segmentation_permitted, more_segments, error_report, fixed_size}
pub use Rattle.pdus.specs.PduHeader.Layout.{type_code}
use Rattle.pdus.specs.PduHeader.Value.{SegmentationPart, PduValue}

-- two octets, the high one first
abbrev pub pair_of : ℕ → List ℕ
pair_of n = to_be_bytes w16 n

-- the octets behind their number
abbrev pub counted : List ℕ → List ℕ
counted octets = length octets ∷ octets

-- identifier, offset and total length (section 7.4)
abbrev pub segmentation_octets : Option SegmentationPart → List ℕ
segmentation_octets None = []
segmentation_octets (Some s) = pair_of s.identifier ++ (pair_of s.offset ++ pair_of s.total)

-- what follows the fixed part in the header: addresses, segmentation part, options (sections 7.3 to 7.5)
abbrev pub variable_part : PduValue → List ℕ
variable_part v =
    counted v.destination ++ (counted v.source ++ (segmentation_octets v.segmentation ++ spelled v.options))

-- the fixed part and what follows it
abbrev pub header_length : PduValue → ℕ
header_length v = fixed_size + length (variable_part v)

-- header and data of this PDU
abbrev pub segment_length : PduValue → ℕ
segment_length v = header_length v + length v.body

-- the flags SP, MS and E/R, and the type (sections 7.2.6 and 7.2.7)
abbrev pub flags_and_type : PduValue → ℕ
flags_and_type v =
    (if is_some v.segmentation then segmentation_permitted else 0) + (if v.more then more_segments else 0) + (if v.report then error_report else 0) + type_code v.kind

-- the header with 0 in both checksum octets: the fixed part (section 7.2) and what follows it
abbrev pub unsealed_header : PduValue → List ℕ
unsealed_header v =
    protocol ∷ header_length v ∷ version ∷ v.lifetime ∷ flags_and_type v ∷ (pair_of (segment_length v) ++ (0 ∷ 0 ∷ variable_part v))

abbrev pub header : PduValue → List ℕ
header v = if v.sealed then sealed (unsealed_header v) else unsealed_header v

abbrev pub spelling : PduValue → List ℕ
spelling v = header v ++ v.body
