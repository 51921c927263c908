-- A shown line has at least two characters for each octet of its frame; and the digits of an accepted frame are a line of a
-- capture, of that frame.
use Rattle.std.proofs.Common.{◌≡◌, ℕ, ◌+◌, ◌*◌, ◌/◌, ◌<◌, ◌≤◌, false, inl, inr, List, [], ◌∷◌, ◌++◌, length, slice_index, codes, Option, None, Some, ap, ◌∙◌, arith, length-append}
use Rattle.std.specs.Fmt.{decimal}
use Rattle.std.proofs.lemmas.Bool.{ne_eqb}
use Rattle.hex.specs.Hex.{IsBytes, encode_with, hex_digit_value, lower_digits}
use Rattle.hex.proofs.HexLemmas.{IsDigits-lower_digits, decode_of-encode_lower, length-encode_with}
use Rattle.pdus.specs.ClnpOptions.Grammar.{joined}
use Rattle.pdus.specs.ClnpOptions.Parameter.{Parameter, spelled, spelling}
use Rattle.pdus.specs.Nsap.Text.{hex_text}
use Rattle.pdus.specs.PduHeader.Spelling.{counted, header, header_length, pair_of, segmentation_octets, variable_part}
use Rattle.pdus.specs.PduHeader.Value.{SegmentationPart, PduValue}
use Rattle.pdus.proofs.PduHeader.Written.{length-header}
use Rattle.pdus.specs.declared.esis_pdus.pdu.EsisBody.{EsisBody}
use Rattle.pdus.specs.declared.esis_pdus.pdu.EsisBody.TheVariants.{Esh, Ish, Rd}
use Rattle.pdus.specs.EsisPdus.Spelling as esis_spelling
use Rattle.pdus.specs.EsisPdus.Spelling.{body_octets, title_octets}
use Rattle.pdus.specs.EsisPdus.Value.{EsisValue}
use Rattle.pdus.proofs.EsisPdus.Frames.{laid_out}
use Rattle.captures.specs.Captures as capture
use Rattle.captures.specs.Captures.{capture_of, is_skipped, most_octets}
use Rattle.captures.specs.Words.{pair_word, option_text, options_text, checksum_of}
use Rattle.captures.specs.Shown.{ShowsValue, front_text, kind_and_flags_text, segmentation_text, value_text}
use Rattle.captures.specs.EsisShown.{ShowsEsis, address_text, addresses_text, body_text, esis_text, esis_word}
use Rattle.captures.proofs.CaptureFacts as capture_facts
use Rattle.captures.specs.CaptureText.Packing.{IsAccepted, Packs}
use Rattle.captures.proofs.CaptureText.Packed.{value_of}
use Rattle.captures.proofs.CaptureText.ReadBack.{half}

digits : (octets : List ℕ) → length (hex_text octets) ≡ 2 * length octets
digits octets = length-encode_with lower_digits octets

-- a key, and digits behind it
digits_behind : (key octets rest : List ℕ) → length (key ++ (hex_text octets ++ rest)) ≡ length key + 2 * length octets + length rest
digits_behind key octets rest =
    omega (arith, length-append key (hex_text octets ++ rest), length-append (hex_text octets) rest, digits octets)

last_digits : (key octets : List ℕ) → length (key ++ hex_text octets) ≡ length key + 2 * length octets
last_digits key octets = omega (arith, length-append key (hex_text octets), digits octets)

-- ---- parts of a line

option_long : (option : Parameter) → 2 * length (spelling option) ≤ length (option_text option)
option_long option =
    omega (arith, digits_behind (codes " opt=") (option.code ∷ []) (codes ":" ++ hex_text option.value), last_digits (codes ":") option.value)

options_long : (options : List Parameter) → 2 * length (spelled options) ≤ length (options_text options)
unfolding spelled options_text
options_long [] = omega arith
options_long (option ∷ others) =
    omega (arith, options_long others, option_long option, length-append (spelling option) (spelled others), length-append (option_text option) (options_text others))

segmentation_long : (part : Option SegmentationPart) → 2 * length (segmentation_octets part) ≤ length (segmentation_text part)
segmentation_long None = omega arith
segmentation_long (Some part) =
    let total : List ℕ = codes " total=" ++ decimal part.total in
    let off : List ℕ = codes " off=" ++ (decimal part.offset ++ total) in
    omega (
      arith,
      digits_behind (codes " id=") (pair_of part.identifier) off,
      length-append (codes " off=") (decimal part.offset ++ total),
      length-append (decimal part.offset) total,
      length-append (codes " total=") (decimal part.total),
      length-append (pair_of part.identifier) (pair_of part.offset ++ pair_of part.total),
      length-append (pair_of part.offset) (pair_of part.total),
    )

-- ---- PDUs of CLNP

front_long : (v : PduValue) (sum : ℕ) → 22 + 2 * length v.destination + 2 * length v.source ≤ length (front_text v sum)
unfolding front_text
front_long v sum =
    let from : List ℕ = codes " from=" ++ hex_text v.source in
    let to : List ℕ = codes " to=" ++ (hex_text v.destination ++ from) in
    let sums : List ℕ = codes " sum=" ++ (pair_word sum ++ to) in
    let life : List ℕ = codes " life=" ++ (decimal v.lifetime ++ sums) in
    omega (
      arith,
      length-append (kind_and_flags_text v) life,
      length-append (codes " life=") (decimal v.lifetime ++ sums),
      length-append (decimal v.lifetime) sums,
      digits_behind (codes " sum=") (pair_of sum) to,
      digits_behind (codes " to=") v.destination from,
      last_digits (codes " from=") v.source,
    )

variable_long : (v : PduValue) → length (variable_part v) ≡ 2 + length v.destination + length v.source + length (segmentation_octets v.segmentation) + length (spelled v.options)
variable_long v =
    omega (
      arith,
      length-append (counted v.destination) (counted v.source ++ (segmentation_octets v.segmentation ++ spelled v.options)),
      length-append (counted v.source) (segmentation_octets v.segmentation ++ spelled v.options),
      length-append (segmentation_octets v.segmentation) (spelled v.options),
    )

value_long : (v : PduValue) (sum : ℕ) (rest : List ℕ)
    → 2 * (header_length v + length v.body + length rest) ≤ length (value_text v sum rest)
value_long v sum rest =
    let body : List ℕ = codes " data=" ++ (hex_text v.body ++ (codes " rest=" ++ hex_text rest)) in
    let options : List ℕ = options_text v.options ++ body in
    omega (
      arith,
      front_long v sum,
      variable_long v,
      segmentation_long v.segmentation,
      options_long v.options,
      length-append (front_text v sum) (segmentation_text v.segmentation ++ options),
      length-append (segmentation_text v.segmentation) options,
      length-append (options_text v.options) body,
      digits_behind (codes " data=") v.body (codes " rest=" ++ hex_text rest),
      last_digits (codes " rest=") rest,
    )

clnp_long : (line frame : List ℕ) → ShowsValue frame line → 2 * length frame ≤ length line
clnp_long line frame shows =
    let v : PduValue = shows.value in
    let octets = shows.begins.octets in
    omega (
      arith,
      ap length shows.text,
      value_long v (checksum_of frame) shows.rest,
      ap length shows.begins.split,
      length-append octets shows.rest,
      ap length shows.begins.spells.octets_are,
      length-append (header v) v.body,
      length-header v,
    )

-- ---- PDUs of ES-IS

addresses_long : (addresses : List (List ℕ)) → 2 * length (joined addresses) ≤ length (addresses_text addresses)
unfolding joined addresses_text
addresses_long [] = omega arith
addresses_long (address ∷ others) =
    omega (
      arith,
      addresses_long others,
      length-append (length address ∷ address) (joined others),
      length-append (address_text address) (addresses_text others),
      last_digits (codes " addr=") address,
    )

body_long : (body : EsisBody) → 2 * length (body_octets body) ≤ 2 + length (body_text body)
unfolding body_text
body_long (Esh addresses) = omega (arith, addresses_long addresses)
body_long (Ish title) = omega (arith, last_digits (codes " title=") title)
body_long (Rd to via title) =
    let name : List ℕ = title_octets title in
    omega (
      arith,
      length-append (counted to) (counted via ++ counted name),
      length-append (counted via) (counted name),
      digits_behind (codes " to=") to (codes " via=" ++ (hex_text via ++ (codes " title=" ++ hex_text name))),
      digits_behind (codes " via=") via (codes " title=" ++ hex_text name),
      last_digits (codes " title=") name,
    )

esis_value_long : (v : EsisValue) (sum : ℕ) (rest : List ℕ) → 2 * (esis_spelling.header_length v + length rest) ≤ length (esis_text v sum rest)
esis_value_long v sum rest =
    let behind_body : List ℕ = options_text v.options ++ (codes " rest=" ++ hex_text rest) in
    let behind_sum : List ℕ = body_text v.body ++ behind_body in
    let sums : List ℕ = codes " sum=" ++ (pair_word sum ++ behind_sum) in
    let hold : List ℕ = codes " hold=" ++ (decimal v.holding ++ sums) in
    omega (
      arith,
      length-append (esis_word v.body) hold,
      length-append (codes " hold=") (decimal v.holding ++ sums),
      length-append (decimal v.holding) sums,
      digits_behind (codes " sum=") (pair_of sum) behind_sum,
      length-append (body_text v.body) behind_body,
      length-append (options_text v.options) (codes " rest=" ++ hex_text rest),
      last_digits (codes " rest=") rest,
      body_long v.body,
      options_long v.options,
      length-append (body_octets v.body) (spelled v.options),
    )

esis_octets : (v : EsisValue) → length (esis_spelling.spelling v) ≡ esis_spelling.header_length v
esis_octets v = let out = laid_out v in ap length out.layout ∙ omega arith

esis_long : (line frame : List ℕ) → ShowsEsis frame line → 2 * length frame ≤ length line
esis_long line frame shows =
    let v : EsisValue = shows.value in
    let octets = shows.begins.octets in
    omega (
      arith,
      ap length shows.text,
      esis_value_long v (checksum_of frame) shows.rest,
      ap length shows.begins.split,
      length-append octets shows.rest,
      ap length shows.begins.spells.octets_are,
      esis_octets v,
    )

pub shown_long : (line frame : List ℕ) → Packs line frame → 2 * length frame ≤ length line
shown_long line frame packs =
    elim (value_of line frame packs) [
      | inl shows ↦ clnp_long line frame shows
      | inr shows ↦ esis_long line frame shows
    ]

-- ---- the digits of an accepted frame

hex_digit_high : (c v : ℕ) → hex_digit_value c ≡ Some v → 47 < c
hex_digit_high c v h = grind (arith)

digits_unskipped : (frame : List ℕ) → IsBytes frame → IsAccepted frame → is_skipped (hex_text frame) ≡ false
unfolding encode_with
digits_unskipped [] bytes accepted = cc accepted
digits_unskipped (octet ∷ octets) bytes accepted =
    let small : octet < 256 = bytes 0 in
    let first : ℕ = slice_index lower_digits (octet / 16) in
    let high : 47 < first = hex_digit_high first (octet / 16) (IsDigits-lower_digits (octet / 16) (omega (arith, small))) in
    ne_eqb first 35 (omega (arith, high))

pub digits_read : (frame : List ℕ) → IsBytes frame → IsAccepted frame → length frame ≤ most_octets → capture_of (hex_text frame) ≡ capture.Frame frame
digits_read frame bytes accepted few =
    capture_facts.frame (hex_text frame) frame (digits_unskipped frame bytes accepted) (decode_of-encode_lower frame bytes) (omega (arith, half frame, few))
