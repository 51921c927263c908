-- A shown line, and the digits of a frame, are one line of a text each.
use Rattle.std.proofs.Common.{◌≡◌, ℕ, ◌/◌, ◌%◌, ◌<◌, Bool, true, false, inl, inr, List, [], ◌∷◌, ◌++◌, slice_index, codes, Option, None, Some, is_some, refl, sym, subst}
use Rattle.std.specs.Prelude.{nat_lt}
use Rattle.std.specs.List.{AllByRecursion, list_all}
use Rattle.std.specs.Fmt.{decimal}
use Rattle.std.proofs.Math.ListN.{get_or-eq_default}
use Rattle.std.proofs.lemmas.Bool.{and_parts, cases_lt, ltb-true, ne_eqb}
use Rattle.std.proofs.Common.{arith}
use Rattle.hex.specs.Hex.{encode_with, lower_digits}
use Rattle.pdus.specs.ClnpBase.Text.{lines_of}
use Rattle.pdus.specs.ClnpOptions.Parameter.{Parameter}
use Rattle.pdus.specs.Nsap.Text.{hex_text}
use Rattle.pdus.specs.declared.pdu_header.kind.Kind.{Kind}
use Rattle.pdus.specs.declared.pdu_header.kind.Kind.TheVariants.{Dt, Er, Erq, Erp}
use Rattle.pdus.specs.PduHeader.Spelling.{pair_of}
use Rattle.pdus.specs.PduHeader.Value.{SegmentationPart, PduValue}
use Rattle.pdus.specs.declared.esis_pdus.pdu.EsisBody.{EsisBody}
use Rattle.pdus.specs.declared.esis_pdus.pdu.EsisBody.TheVariants.{Esh, Ish, Rd}
use Rattle.pdus.specs.EsisPdus.Spelling.{title_octets}
use Rattle.pdus.specs.EsisPdus.Value.{EsisValue}
use Rattle.captures.specs.Words.{pair_word, option_text, options_text, checksum_of}
use Rattle.captures.specs.Shown.{kind_word, flags_word, letters_of, front_text, kind_and_flags_text, segmentation_text, value_text}
use Rattle.captures.specs.EsisShown.{address_text, addresses_text, body_text, esis_text, esis_word}
use Rattle.pdus.proofs.ClnpBase.Lists.{AllByRecursion-append, AllByRecursion-implies}
use Rattle.pdus.proofs.ClnpBase.Reading.{IsWithinLine, lines_of-line}
use Rattle.captures.specs.CaptureText.Packing.{Packs}
use Rattle.pdus.proofs.ClnpBase.PlainWords.{IsPlain, decimal_plain, digit_plain}
use Rattle.captures.proofs.CaptureText.Packed.{value_of}

-- a text in which no line ends
abbrev pub IsInLine : List ℕ → Type 0
IsInLine text = AllByRecursion IsWithinLine text

within : (c : ℕ) → 13 < c → IsWithinLine c
within c h = (ne_eqb c 10 (omega arith), ne_eqb c 13 (omega arith))

-- ---- parts of a line

known : (text : List ℕ) → list_all (λ c. nat_lt 13 c) text ≡ true → IsInLine text
known [] h = tt
known (c ∷ cs) h =
    let p = and_parts (nat_lt 13 c) (list_all (λ d. nat_lt 13 d) cs) h in
    (within c (ltb-true 13 c p.0), known cs p.1)

behind : (text rest : List ℕ) → IsInLine text → IsInLine rest → IsInLine (text ++ rest)
behind text rest h k = AllByRecursion-append IsWithinLine text rest h k

digit_within : (d : ℕ) → IsWithinLine (slice_index lower_digits d)
digit_within d =
    elim (cases_lt d 16) [
      | inl small ↦ let p : 32 < slice_index lower_digits d = digit_plain d small in within (slice_index lower_digits d) (omega (arith, p))
      | inr past ↦ subst IsWithinLine (sym (get_or-eq_default lower_digits 0 past)) (refl, refl)
    ]

pub hex_in_line : (octets : List ℕ) → IsInLine (hex_text octets)
unfolding encode_with
hex_in_line [] = tt
hex_in_line (octet ∷ octets) = (digit_within (octet / 16), (digit_within (octet % 16), hex_in_line octets))

plain_within : (c : ℕ) → IsPlain c → IsWithinLine c
plain_within c h = within c (omega (arith, h))

decimal_in_line : (n : ℕ) → IsInLine (decimal n)
decimal_in_line n = AllByRecursion-implies IsPlain IsWithinLine plain_within (decimal n) (decimal_plain n)

-- a key, and octets or a number behind it, before what is in the line
octets_behind : (key octets rest : List ℕ) → list_all (λ c. nat_lt 13 c) key ≡ true → IsInLine rest → IsInLine (key ++ (hex_text octets ++ rest))
octets_behind key octets rest is h = behind key (hex_text octets ++ rest) (known key is) (behind (hex_text octets) rest (hex_in_line octets) h)

number_behind : (key : List ℕ) (n : ℕ) (rest : List ℕ) → list_all (λ c. nat_lt 13 c) key ≡ true → IsInLine rest → IsInLine (key ++ (decimal n ++ rest))
number_behind key n rest is h = behind key (decimal n ++ rest) (known key is) (behind (decimal n) rest (decimal_in_line n) h)

last_octets : (key octets : List ℕ) → list_all (λ c. nat_lt 13 c) key ≡ true → IsInLine (key ++ hex_text octets)
last_octets key octets is = behind key (hex_text octets) (known key is) (hex_in_line octets)

options_in_line : (options : List Parameter) → IsInLine (options_text options)
unfolding options_text
options_in_line [] = tt
options_in_line (option ∷ others) =
    behind (option_text option) (options_text others)
    (octets_behind (codes " opt=") (option.code ∷ []) (codes ":" ++ hex_text option.value) refl (last_octets (codes ":") option.value refl))
    (options_in_line others)

-- ---- PDUs of CLNP

kind_in_line : (kind : Kind) → IsInLine (kind_word kind)
kind_in_line Dt = known (codes "dt") refl
kind_in_line Er = known (codes "er") refl
kind_in_line Erq = known (codes "erq") refl
kind_in_line Erp = known (codes "erp") refl

flags_in_line : (s m e : Bool) → IsInLine (flags_word (letters_of s m e))
flags_in_line false false false = known (codes "-") refl
flags_in_line false false true = known (codes "e") refl
flags_in_line false true false = known (codes "m") refl
flags_in_line false true true = known (codes "me") refl
flags_in_line true false false = known (codes "s") refl
flags_in_line true false true = known (codes "se") refl
flags_in_line true true false = known (codes "sm") refl
flags_in_line true true true = known (codes "sme") refl

segmentation_in_line : (part : Option SegmentationPart) → IsInLine (segmentation_text part)
segmentation_in_line None = tt
segmentation_in_line (Some part) =
    octets_behind (codes " id=") (pair_of part.identifier) (codes " off=" ++ (decimal part.offset ++ (codes " total=" ++ decimal part.total))) refl
    (number_behind (codes " off=") part.offset (codes " total=" ++ decimal part.total) refl
    (behind (codes " total=") (decimal part.total) (known (codes " total=") refl) (decimal_in_line part.total)))

front_in_line : (v : PduValue) (sum : ℕ) → IsInLine (front_text v sum)
unfolding front_text
front_in_line v sum =
    let from : List ℕ = codes " from=" ++ hex_text v.source in
    let to : List ℕ = codes " to=" ++ (hex_text v.destination ++ from) in
    let sums : List ℕ = codes " sum=" ++ (pair_word sum ++ to) in
    let flags : List ℕ = flags_word (letters_of (is_some v.segmentation) v.more v.report) in
    behind (kind_and_flags_text v) (codes " life=" ++ (decimal v.lifetime ++ sums))
    (behind (codes "clnp ") (kind_word v.kind ++ (codes " " ++ flags)) (known (codes "clnp ") refl)
    (behind (kind_word v.kind) (codes " " ++ flags) (kind_in_line v.kind)
    (behind (codes " ") flags (known (codes " ") refl) (flags_in_line (is_some v.segmentation) v.more v.report))))
    (number_behind (codes " life=") v.lifetime sums refl
    (octets_behind (codes " sum=") (pair_of sum) to refl
    (octets_behind (codes " to=") v.destination from refl (last_octets (codes " from=") v.source refl))))

value_in_line : (v : PduValue) (sum : ℕ) (rest : List ℕ) → IsInLine (value_text v sum rest)
value_in_line v sum rest =
    let body : List ℕ = codes " data=" ++ (hex_text v.body ++ (codes " rest=" ++ hex_text rest)) in
    behind (front_text v sum) (segmentation_text v.segmentation ++ (options_text v.options ++ body)) (front_in_line v sum)
    (behind (segmentation_text v.segmentation) (options_text v.options ++ body) (segmentation_in_line v.segmentation)
    (behind (options_text v.options) body (options_in_line v.options)
    (octets_behind (codes " data=") v.body (codes " rest=" ++ hex_text rest) refl (last_octets (codes " rest=") rest refl))))

-- ---- PDUs of ES-IS

addresses_in_line : (addresses : List (List ℕ)) → IsInLine (addresses_text addresses)
unfolding addresses_text
addresses_in_line [] = tt
addresses_in_line (address ∷ others) =
    behind (address_text address) (addresses_text others) (last_octets (codes " addr=") address refl) (addresses_in_line others)

body_in_line : (body : EsisBody) → IsInLine (body_text body)
unfolding body_text
body_in_line (Esh addresses) = addresses_in_line addresses
body_in_line (Ish title) = last_octets (codes " title=") title refl
body_in_line (Rd to via title) =
    octets_behind (codes " to=") to (codes " via=" ++ (hex_text via ++ (codes " title=" ++ hex_text (title_octets title)))) refl
    (octets_behind (codes " via=") via (codes " title=" ++ hex_text (title_octets title)) refl (last_octets (codes " title=") (title_octets title) refl))

word_in_line : (body : EsisBody) → IsInLine (esis_word body)
word_in_line (Esh addresses) = known (codes "esh") refl
word_in_line (Ish title) = known (codes "ish") refl
word_in_line (Rd to via title) = known (codes "rd") refl

esis_in_line : (v : EsisValue) (sum : ℕ) (rest : List ℕ) → IsInLine (esis_text v sum rest)
esis_in_line v sum rest =
    let behind_body : List ℕ = options_text v.options ++ (codes " rest=" ++ hex_text rest) in
    let behind_sum : List ℕ = body_text v.body ++ behind_body in
    behind (esis_word v.body) (codes " hold=" ++ (decimal v.holding ++ (codes " sum=" ++ (pair_word sum ++ behind_sum)))) (word_in_line v.body)
    (number_behind (codes " hold=") v.holding (codes " sum=" ++ (pair_word sum ++ behind_sum)) refl
    (octets_behind (codes " sum=") (pair_of sum) behind_sum refl
    (behind (body_text v.body) behind_body (body_in_line v.body)
    (behind (options_text v.options) (codes " rest=" ++ hex_text rest) (options_in_line v.options) (last_octets (codes " rest=") rest refl)))))

-- ---- lines

shown_in_line : (line frame : List ℕ) → Packs line frame → IsInLine line
shown_in_line line frame packs =
    elim (value_of line frame packs) [
      | inl shows ↦ subst IsInLine (sym shows.text) (value_in_line shows.value (checksum_of frame) shows.rest)
      | inr shows ↦ subst IsInLine (sym shows.text) (esis_in_line shows.value (checksum_of frame) shows.rest)
    ]

pub shown_cut : (line frame more : List ℕ) → Packs line frame → lines_of (line ++ (10 ∷ more)) ≡ line ∷ lines_of more
shown_cut line frame more packs = lines_of-line line more (shown_in_line line frame packs)

pub digits_cut : (frame more : List ℕ) → lines_of (hex_text frame ++ (10 ∷ more)) ≡ hex_text frame ∷ lines_of more
digits_cut frame more = lines_of-line (hex_text frame) more (hex_in_line frame)
