-- The numbers of the header's layout (ISO 8473, section 7.2), which writing and reading share.
use Rattle.std.specs.Prelude.{ℕ}
use Rattle.pdus.specs.declared.pdu_header.kind.Kind.{Kind}
use Rattle.pdus.specs.declared.pdu_header.kind.Kind.TheVariants.{Dt, Er, Erq, Erp}

-- the network layer protocol identifier (section 7.2.2)
abbrev pub protocol : ℕ
protocol = 0x81

-- section 7.2.4
abbrev pub version : ℕ
version = 1

-- the flags SP, MS and E/R in octet 5, above the type (section 7.2.6)
abbrev pub segmentation_permitted : ℕ
segmentation_permitted = 128

abbrev pub more_segments : ℕ
more_segments = 64

abbrev pub error_report : ℕ
error_report = 32

-- the type (section 7.2.7; RFC 1575, section 4)
abbrev pub type_code : Kind → ℕ
type_code Er = 1
type_code Dt = 28
type_code Erq = 30
type_code Erp = 31

-- the octets of the fixed part, and of the segmentation part (sections 7.2 and 7.4)
abbrev pub fixed_size : ℕ
fixed_size = 9

abbrev pub part_size : ℕ
part_size = 6

-- the most octets of a header (section 7.2.3), and of header and data (section 7.2.8)
abbrev pub most_header : ℕ
most_header = 254

abbrev pub most_total : ℕ
most_total = 65535
