-- The line that shows a CLNP PDU is read as the very frame that it is shown of.
use Rattle.std.proofs.Common.{◌≡◌, ℕ, ◌+◌, ◌-◌, ◌^◌, ◌<◌, ◌≤◌, ◌||◌, Bool, true, false, if◌then◌else◌, List, [], ◌∷◌, ◌++◌, length, get_or, codes, Option, Some, None, is_some, refl, sym, ap, subst, ◌∙◌, append_assoc, arith}
use Rattle.std.specs.Prelude.{nat_lt, option_and_then}
use Rattle.std.specs.Fmt.{decimal}
use Rattle.hex.specs.Hex.{IsBytes}
use Rattle.pdus.specs.Nsap.Text.{hex_text}
use Rattle.pdus.specs.ClnpBase.Text.{words_of, ends_word}
use Rattle.pdus.proofs.ClnpBase.Choices.{below_not}
use Rattle.pdus.specs.ClnpOptions.Parameter.{spelled}
use Rattle.pdus.specs.declared.pdu_header.kind.Kind.{Kind}
use Rattle.pdus.specs.declared.pdu_header.kind.Kind.TheVariants.{Dt, Er, Erq, Erp}
use Rattle.pdus.specs.PduHeader.Layout.{type_code}
use Rattle.pdus.specs.PduHeader.Value.{SegmentationPart, PduValue}
use Rattle.pdus.specs.PduHeader.Spelling.{counted, pair_of, segmentation_octets, variable_part, header_length, segment_length, flags_and_type}
use Rattle.pdus.specs.PduHeader.Grammar.{IsPdu, IsSegment}
use Rattle.pdus.proofs.PduHeader.Read.{laid_out}
use Rattle.captures.specs.Words.{pair_word, options_text, checksum_of}
use Rattle.captures.specs.Shown.{kind_word, flags_word, letters_of, segmentation_text, kind_and_flags_text, front_text, value_text, ShowsValue}
use Rattle.captures.specs.CaptureText.Said.{Said, nothing}
use Rattle.captures.specs.CaptureText.Words.{says_words}
use Rattle.captures.specs.CaptureText.Laid.{laid, type_of, octet_5, clnp_frame, frame_of}
use Rattle.pdus.proofs.ClnpBase.PlainWords.{IsWord, known, first_word}
use Rattle.captures.proofs.CaptureText.Bytes.{left_bytes, right_bytes}
use Rattle.captures.proofs.CaptureText.Checksums.{nine, checksum_is, behind_nine}
use Rattle.captures.proofs.CaptureText.Steps.{AreShort, step_life, step_sum, step_to, step_from, step_segmentation, step_options, ends_options, last_data}

-- ---- the first words

kind_is_word : (kind : Kind) → IsWord (kind_word kind)
kind_is_word Dt = known (codes "dt") refl
kind_is_word Er = known (codes "er") refl
kind_is_word Erq = known (codes "erq") refl
kind_is_word Erp = known (codes "erp") refl

kind_read : (kind : Kind) → type_of (kind_word kind) ≡ Some (type_code kind)
kind_read Dt = refl
kind_read Er = refl
kind_read Erq = refl
kind_read Erp = refl

flags_are_word : (s m e : Bool) → IsWord (flags_word (letters_of s m e))
flags_are_word false false false = known (codes "-") refl
flags_are_word false false true = known (codes "e") refl
flags_are_word false true false = known (codes "m") refl
flags_are_word false true true = known (codes "me") refl
flags_are_word true false false = known (codes "s") refl
flags_are_word true false true = known (codes "se") refl
flags_are_word true true false = known (codes "sm") refl
flags_are_word true true true = known (codes "sme") refl

flags_read : (s m e : Bool) (type : ℕ)
    → octet_5 (flags_word (letters_of s m e)) type ≡ (if s then 128 else 0) + (if m then 64 else 0) + (if e then 32 else 0) + type
flags_read false false false type = refl
flags_read false false true type = refl
flags_read false true false type = refl
flags_read false true true type = refl
flags_read true false false type = refl
flags_read true false true type = refl
flags_read true true false type = refl
flags_read true true true type = refl

-- ---- the line as words

-- the line from the lifetime on
abbrev fields : PduValue → ℕ → List ℕ → List ℕ
fields v sum rest =
    codes " life=" ++ (decimal v.lifetime ++ (codes " sum=" ++ (pair_word sum ++ (codes " to=" ++ (hex_text v.destination ++ (codes " from=" ++ (hex_text v.source
    ++ (segmentation_text v.segmentation ++ (options_text v.options ++ (codes " data=" ++ (hex_text v.body ++ (codes " rest=" ++ hex_text rest))))))))))))

regrouped : (v : PduValue) (sum : ℕ) (rest : List ℕ) → value_text v sum rest ≡ kind_and_flags_text v ++ fields v sum rest
unfolding front_text
regrouped v sum rest =
    let X : List ℕ = segmentation_text v.segmentation ++ (options_text v.options ++ (codes " data=" ++ (hex_text v.body ++ (codes " rest=" ++ hex_text rest)))) in
    let C : List ℕ = codes " from=" ++ hex_text v.source in
    let B : List ℕ = codes " to=" ++ (hex_text v.destination ++ C) in
    let A : List ℕ = codes " sum=" ++ (pair_word sum ++ B) in
    append_assoc (kind_and_flags_text v) (codes " life=" ++ (decimal v.lifetime ++ A)) X
    ∙ ap (λ (t : List ℕ). kind_and_flags_text v ++ (codes " life=" ++ t))
    (append_assoc (decimal v.lifetime) A X
    ∙ ap (λ (t : List ℕ). decimal v.lifetime ++ (codes " sum=" ++ t))
    (append_assoc (pair_word sum) B X
    ∙ ap (λ (t : List ℕ). pair_word sum ++ (codes " to=" ++ t)) (append_assoc (hex_text v.destination) C X)))

words_are : (kind flags rest : List ℕ) → IsWord kind → IsWord flags → ends_word rest ≡ true
    → words_of ((codes "clnp " ++ (kind ++ (codes " " ++ flags))) ++ rest) ≡ codes "clnp" ∷ kind ∷ flags ∷ words_of rest
words_are kind flags rest is_kind are_flags ends =
    ap (λ (t : List ℕ). words_of (codes "clnp " ++ t)) (append_assoc kind (codes " " ++ flags) rest)
    ∙ first_word (codes "clnp") (codes " " ++ (kind ++ (codes " " ++ (flags ++ rest)))) (known (codes "clnp") refl) refl
    ∙ ap (λ (ws : List (List ℕ)). codes "clnp" ∷ ws)
    (first_word kind (codes " " ++ (flags ++ rest)) is_kind refl
    ∙ ap (λ (ws : List (List ℕ)). kind ∷ ws) (first_word flags rest are_flags ends))

-- ---- what the fields say

-- the facts of a value by which its fields are read
record AreRead (v : PduValue) (rest : List ℕ) : Type 0 where
  life : v.lifetime < 2 ^ 16
  to : IsBytes v.destination
  to_few : length v.destination < 256
  from : IsBytes v.source
  from_few : length v.source < 256
  segmentation : AreShort v.segmentation
  options : IsBytes (spelled v.options)
  body : IsBytes v.body
  rest_bytes : IsBytes rest

all_said : PduValue → ℕ → List ℕ → Said
all_said v sum rest =
    record { number = v.lifetime; sum = pair_of sum; addresses = 0; part = variable_part v; size = length v.body; behind = v.body ++ rest }

ends_segmentation : (found : Option SegmentationPart) (rest : List ℕ) → ends_word rest ≡ true → ends_word (segmentation_text found ++ rest) ≡ true
ends_segmentation None rest ends = ends
ends_segmentation (Some part) rest ends = refl

fields_say : (v : PduValue) (sum : ℕ) (rest : List ℕ) → AreRead v rest → says_words nothing (words_of (fields v sum rest)) ≡ Some (all_said v sum rest)
unfolding all_said
fields_say v sum rest h =
    let data_text : List ℕ = codes " data=" ++ (hex_text v.body ++ (codes " rest=" ++ hex_text rest)) in
    let options : List ℕ = options_text v.options ++ data_text in
    let segment : List ℕ = segmentation_text v.segmentation ++ options in
    let from : List ℕ = codes " from=" ++ (hex_text v.source ++ segment) in
    let to : List ℕ = codes " to=" ++ (hex_text v.destination ++ from) in
    let ct : List ℕ = counted v.destination in
    let cf : List ℕ = counted v.source in
    let sg : List ℕ = segmentation_octets v.segmentation in
    let so : List ℕ = spelled v.options in
    let a : Said = record nothing { number = v.lifetime } in
    let b : Said = record a { sum = pair_of sum } in
    let d : Said = record b { part = ct } in
    let e : Said = record b { part = ct ++ cf } in
    let f : Said = record b { part = (ct ++ cf) ++ sg } in
    let g : Said = record b { part = ((ct ++ cf) ++ sg) ++ so } in
    let ends_data : ends_word options ≡ true = ends_options v.options data_text refl in
    step_life nothing v.lifetime (codes " sum=" ++ (pair_word sum ++ to)) h.life refl
    ∙ step_sum a sum to refl
    ∙ step_to b v.destination from h.to h.to_few refl
    ∙ step_from d v.source segment h.from h.from_few (ends_segmentation v.segmentation options ends_data)
    ∙ step_segmentation v.segmentation e options h.segmentation ends_data
    ∙ step_options v.options f data_text h.options refl
    ∙ last_data g v.body rest h.body h.rest_bytes
    ∙ ap (λ (t : List ℕ). let s : Said = record b { part = t; size = length v.body; behind = v.body ++ rest } in Some s)
    (append_assoc (ct ++ cf) sg so ∙ append_assoc ct cf (sg ++ so))

-- ---- the frame

fits_frame : (flags : ℕ) (said : Said) → 9 + length said.part ≤ 254 → said.number < 256 → 9 + length said.part + said.size < 2 ^ 16
    → clnp_frame flags said ≡ Some (laid (0x81 ∷ (9 + length said.part) ∷ 1 ∷ said.number ∷ flags ∷ []) (9 + length said.part + said.size) [] said)
fits_frame flags said short small fits =
    let a : nat_lt 254 (9 + length said.part) ≡ false = below_not 254 (9 + length said.part) short in
    let b : nat_lt 255 said.number ≡ false = below_not 255 said.number (omega arith) in
    let c : nat_lt (65535 - (9 + length said.part)) said.size ≡ false = below_not (65535 - (9 + length said.part)) said.size (omega arith) in
    ap (λ (t : Bool). if t then None else Some (laid (0x81 ∷ (9 + length said.part) ∷ 1 ∷ said.number ∷ flags ∷ []) (9 + length said.part + said.size) [] said))
    {x = nat_lt 254 (9 + length said.part) || (nat_lt 255 said.number || nat_lt (65535 - (9 + length said.part)) said.size)} {y = false}
    (rw (a, b, c) refl)

short_parts : (v : PduValue) (found : Option SegmentationPart) → IsSegment v found → AreShort found
short_parts v None h = tt
short_parts v (Some part) h = (h.offset, h.total)

-- the facts of the value of a PDU whose octets, behind the first nine, are octets
are_read : (v : PduValue) (rest : List ℕ) → IsPdu v → IsBytes ((variable_part v ++ v.body) ++ rest) → AreRead v rest
are_read v rest pdu bytes =
    let front : IsBytes (variable_part v ++ v.body) = left_bytes (variable_part v ++ v.body) rest bytes in
    let part : IsBytes (variable_part v) = left_bytes (variable_part v) v.body front in
    let behind_to : IsBytes (counted v.source ++ (segmentation_octets v.segmentation ++ spelled v.options)) = right_bytes (counted v.destination) (counted v.source ++ (segmentation_octets v.segmentation ++ spelled v.options)) part in
    let behind_from : IsBytes (segmentation_octets v.segmentation ++ spelled v.options) = right_bytes (counted v.source) (segmentation_octets v.segmentation ++ spelled v.options) behind_to in
    record {
      life = omega (arith, pdu.lifetime);
      to = pdu.destination.bytes;
      to_few = omega (arith, pdu.destination.few);
      from = pdu.source.bytes;
      from_few = omega (arith, pdu.source.few);
      segmentation = short_parts v v.segmentation pdu.segmentation;
      options = right_bytes (segmentation_octets v.segmentation) (spelled v.options) behind_from;
      body = right_bytes (variable_part v) v.body front;
      rest_bytes = right_bytes (variable_part v ++ v.body) rest bytes;
    }

-- the octets of a PDU with these octets 8 and 9, and of what follows it
abbrev octets_of : PduValue → ℕ → ℕ → List ℕ → List ℕ
octets_of v x y rest =
    nine 0x81 (header_length v) 1 v.lifetime (flags_and_type v) (get_or (pair_of (segment_length v)) 0 0) (get_or (pair_of (segment_length v)) 1 0) x y ((variable_part v ++ v.body) ++ rest)

-- where all is said, it is laid out as those octets
laid_as : (v : PduValue) (sum x y : ℕ) (rest : List ℕ) → IsPdu v → pair_of sum ≡ x ∷ y ∷ []
    → clnp_frame (flags_and_type v) (all_said v sum rest) ≡ Some (octets_of v x y rest)
unfolding all_said
laid_as v sum x y rest pdu sum_is =
    fits_frame (flags_and_type v) (all_said v sum rest) pdu.header_fits pdu.lifetime pdu.segment_fits
    ∙ ap (λ (t : List ℕ). Some (0x81 ∷ header_length v ∷ 1 ∷ v.lifetime ∷ flags_and_type v ∷ (pair_of (segment_length v) ++ t ++ variable_part v ++ (v.body ++ rest)))) sum_is
    ∙ ap (λ (t : List ℕ). Some (nine 0x81 (header_length v) 1 v.lifetime (flags_and_type v) (get_or (pair_of (segment_length v)) 0 0) (get_or (pair_of (segment_length v)) 1 0) x y t))
    (sym (append_assoc (variable_part v) v.body rest))

frame_from : (v : PduValue) (sum x y : ℕ) (rest : List ℕ) → IsPdu v → AreRead v rest → pair_of sum ≡ x ∷ y ∷ []
    → frame_of (words_of (value_text v sum rest)) ≡ Some (octets_of v x y rest)
unfolding frame_of
frame_from v sum x y rest pdu read sum_is =
    let seg : Bool = is_some v.segmentation in
    let flags : List ℕ = flags_word (letters_of seg v.more v.report) in
    let words : List (List ℕ) = words_of (fields v sum rest) in
    ap (λ (t : List ℕ). frame_of (words_of t)) (regrouped v sum rest)
    ∙ ap (λ (ws : List (List ℕ)). frame_of ws) (words_are (kind_word v.kind) flags (fields v sum rest) (kind_is_word v.kind) (flags_are_word seg v.more v.report) refl)
    ∙ ap (λ (o : Option ℕ). option_and_then (λ (type : ℕ). option_and_then (clnp_frame (octet_5 flags type)) (says_words nothing words)) o) (kind_read v.kind)
    ∙ ap (λ (n : ℕ). option_and_then (clnp_frame n) (says_words nothing words)) (flags_read seg v.more v.report (type_code v.kind))
    ∙ ap (λ (o : Option Said). option_and_then (clnp_frame (flags_and_type v)) o) (fields_say v sum rest read)
    ∙ laid_as v sum x y rest pdu sum_is

pub read_clnp : (frame line : List ℕ) → IsBytes frame → ShowsValue frame line → frame_of (words_of line) ≡ Some frame
read_clnp frame line bytes shows =
    let v : PduValue = shows.value in
    let rest : List ℕ = shows.rest in
    let pdu : IsPdu v = shows.begins.spells.pdu in
    let out = laid_out v in
    let is : frame ≡ octets_of v out.x out.y rest =
    shows.begins.split ∙ ap (λ (t : List ℕ). t ++ rest) (shows.begins.spells.octets_are ∙ ap (λ (t : List ℕ). t ++ v.body) out.layout) in
    let octets : IsBytes (octets_of v out.x out.y rest) = subst IsBytes is bytes in
    let high : ℕ = get_or (pair_of (segment_length v)) 0 0 in
    let low : ℕ = get_or (pair_of (segment_length v)) 1 0 in
    let behind : IsBytes ((variable_part v ++ v.body) ++ rest) = behind_nine 0x81 (header_length v) 1 v.lifetime (flags_and_type v) high low out.x out.y ((variable_part v ++ v.body) ++ rest) octets in
    let sum_is : pair_of (checksum_of frame) ≡ out.x ∷ out.y ∷ [] =
    ap (λ (t : List ℕ). pair_of (checksum_of t)) is
    ∙ checksum_is 0x81 (header_length v) 1 v.lifetime (flags_and_type v) high low out.x out.y ((variable_part v ++ v.body) ++ rest) octets (omega arith) in
    ap (λ (t : List ℕ). frame_of (words_of t)) shows.text
    ∙ frame_from v (checksum_of frame) out.x out.y rest pdu (are_read v rest pdu behind) sum_is
    ∙ ap (λ (t : List ℕ). Some t) (sym is)
