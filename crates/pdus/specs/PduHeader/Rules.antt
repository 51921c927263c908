-- The rules G1 to G20 of a frame that begins with 0x81, each with its reason (ISO 8473, section 7.9.5) and
-- the place of the octet at fault. A rule is read under the premise that all before it hold; places count
-- from 1, and 0 is no place. From G4 on a rule reads the header, the frame's first octets up to its header length.
use Rattle.std.specs.Prelude.{ℕ, ◌+◌, ◌-◌, ◌*◌, ◌/◌, ◌%◌, ◌==◌, ◌&&◌, ◌||◌, not, nat_lt, nat_le, Bool, if◌then◌else◌, List, length, take, drop, Option, None, Some, is_some}
use Rattle.std.specs.Option.{option_or}
pub use Rattle.pdus.specs.Fletcher.Checksum.{octet, has_right_checksum}
use Rattle.pdus.specs.declared.clnp_options.judge.OptionRefusal.{OptionRefusal}
use Rattle.pdus.specs.declared.clnp_options.reasons.Reason.{Reason}
use Rattle.pdus.specs.declared.clnp_options.reasons.Reason.TheVariants.{HeaderSyntaxError, IncompletePdu, IncorrectChecksum, UnsupportedVersion}
use Rattle.pdus.specs.ClnpOptions.Reasons.{reason_code}
use Rattle.pdus.specs.ClnpOptions.Rules.{refusal as options_refusal}
use Rattle.pdus.specs.PduHeader.Layout.{protocol, version, segmentation_permitted, more_segments, error_report, type_code, fixed_size, part_size}
use Rattle.pdus.specs.declared.pdu_header.kind.Kind.{Kind}
use Rattle.pdus.specs.declared.pdu_header.kind.Kind.TheVariants.{Dt, Er, Erq, Erp}

-- two octets as a number, the first of them at a place
abbrev pub pair_at : List ℕ → ℕ → ℕ
pair_at head place = 256 * octet head place + octet head (place + 1)

abbrev pub header_size : List ℕ → ℕ
header_size frame = octet frame 2

abbrev pub header_of : List ℕ → List ℕ
header_of frame = take (header_size frame) frame

abbrev pub type_of : List ℕ → ℕ
type_of head = octet head 5 % error_report

-- the kind that a type says, where it is known (section 7.2.7; RFC 1575, section 4)
abbrev pub kind_of : ℕ → Option Kind
kind_of type =
    if type == type_code Er then Some Er
    else (if type == type_code Dt then Some Dt
    else (if type == type_code Erq then Some Erq
    else (if type == type_code Erp then Some Erp else None)))

-- the flags SP, MS and E/R
abbrev pub is_segmented : List ℕ → Bool
is_segmented head = nat_le segmentation_permitted (octet head 5)

abbrev pub has_more : List ℕ → Bool
has_more head = (octet head 5 / more_segments) % 2 == 1

abbrev pub wants_report : List ℕ → Bool
wants_report head = (octet head 5 / error_report) % 2 == 1

abbrev pub segment_size : List ℕ → ℕ
segment_size head = pair_at head 6

-- where the source's length octet stands
abbrev pub source_place : List ℕ → ℕ
source_place head = 11 + octet head 10

-- where what follows the addresses begins
abbrev pub part_place : List ℕ → ℕ
part_place head = source_place head + 1 + octet head (source_place head)

-- where the options begin
abbrev pub options_place : List ℕ → ℕ
options_place head = if is_segmented head then part_place head + part_size else part_place head

-- an address whose length octet stands at a place doesn't lie in the header, or has no octet or more than 20
abbrev pub is_bad_address : List ℕ → ℕ → Bool
is_bad_address head place =
    nat_lt (length head) place
    || (octet head place == 0 || (nat_lt 20 (octet head place) || nat_lt (length head) (place + octet head place)))

-- the octets of data behind the header
abbrev pub data_size : List ℕ → ℕ
data_size head = segment_size head - length head

-- The unit's total length is below its header's, or the data ends past the unit's end, or it ends there
-- though more data is to follow, or before it though none is.
abbrev pub is_unfit_range : ℕ → ℕ → ℕ → Bool → Bool
is_unfit_range header_length total data_end more =
    nat_lt total header_length
    || (nat_lt (total - header_length) data_end
    || (if more then data_end == total - header_length else not (data_end == total - header_length)))

-- the same of a header with a segmentation part
abbrev pub is_bad_range : List ℕ → Bool
is_bad_range head =
    is_unfit_range (length head) (pair_at head (part_place head + 4)) (pair_at head (part_place head + 2) + data_size head) (has_more head)

-- the octets from the options' place to the header's end
abbrev pub options_part : List ℕ → List ℕ
options_part head = drop (options_place head - 1) head

-- a broken rule, its reason and its place
abbrev pub broken : ℕ → Reason → ℕ → Option OptionRefusal
broken rule cause place = Some (record { rule = rule; reason = reason_code cause; place = place })

-- the least of G1 to G3 that a frame breaks: the header lies in the frame
unfoldable pub extent_refusal : List ℕ → Option OptionRefusal
extent_refusal frame =
    if nat_lt (length frame) fixed_size then broken 1 IncompletePdu 0
    else (if nat_lt (header_size frame) fixed_size || header_size frame == 255 then broken 2 HeaderSyntaxError 2
    else (if nat_lt (length frame) (header_size frame) then broken 3 IncompletePdu 2 else None))

-- the least of G4 to G7 that a header breaks: its fixed part
unfoldable pub fixed_part_refusal : List ℕ → Option OptionRefusal
fixed_part_refusal head =
    if not (octet head 3 == version) then broken 4 UnsupportedVersion 3
    else (if not (has_right_checksum head) then broken 5 IncorrectChecksum 0
    else (if not (is_some (kind_of (type_of head))) then broken 6 HeaderSyntaxError 5
    else (if has_more head && not (is_segmented head) then broken 7 HeaderSyntaxError 5 else None)))

-- the least of G8 and G9 that a header breaks: its addresses
unfoldable pub addresses_refusal : List ℕ → Option OptionRefusal
addresses_refusal head =
    if is_bad_address head 10 then broken 8 HeaderSyntaxError 10
    else (if is_bad_address head (source_place head) then broken 9 HeaderSyntaxError (source_place head) else None)

-- the least of G10 to G13 that a header breaks in a frame of so many octets: its lengths
unfoldable pub lengths_refusal : List ℕ → ℕ → Option OptionRefusal
lengths_refusal head frame_length =
    if is_segmented head && nat_lt (length head) (part_place head + 5) then broken 10 HeaderSyntaxError (part_place head)
    else (if nat_lt (segment_size head) (length head) then broken 11 HeaderSyntaxError 6
    else (if nat_lt frame_length (segment_size head) then broken 12 IncompletePdu 6
    else (if is_segmented head && is_bad_range head then broken 13 HeaderSyntaxError (part_place head + 4) else None)))

-- the least of G4 to G20 that a header breaks in a frame of so many octets
unfoldable pub header_refusal : List ℕ → ℕ → Option OptionRefusal
header_refusal head frame_length =
    option_or (fixed_part_refusal head)
    (option_or (addresses_refusal head)
    (option_or (lengths_refusal head frame_length)
    (options_refusal (options_part head) (options_place head) (type_of head == type_code Er))))

-- the least of G1 to G20 that a frame breaks
unfoldable pub refusal : List ℕ → Option OptionRefusal
refusal frame = option_or (extent_refusal frame) (header_refusal (header_of frame) (length frame))

-- E/R is 1 in a header that is no error report, and both addresses can be read
abbrev pub is_reportable_header : List ℕ → Bool
is_reportable_header head =
    wants_report head
    && (not (type_of head == type_code Er) && (not (is_bad_address head 10) && not (is_bad_address head (source_place head))))

-- An error report of the frame's discard is made: it begins with a header in which both addresses can be
-- read, E/R is 1, and which is no report itself (section 6.10).
abbrev pub is_reportable : List ℕ → Bool
is_reportable frame =
    octet frame 1 == protocol && (not (is_some (extent_refusal frame)) && is_reportable_header (header_of frame))
