-- The line that shows an ES-IS PDU is read as the very frame that it is shown of.
use Rattle.std.proofs.Common.{◌≡◌, ℕ, suc, ◌+◌, ◌^◌, ◌<◌, ◌≤◌, Bool, true, if◌then◌else◌, List, [], ◌∷◌, ◌++◌, length, get_or, codes, Option, Some, None, refl, sym, ap, subst, ◌∙◌, append_assoc, arith, length-append}
use Rattle.std.specs.Prelude.{option_and_then}
use Rattle.std.specs.Fmt.{decimal}
use Rattle.hex.specs.Hex.{IsBytes}
use Rattle.pdus.specs.Nsap.Text.{hex_text}
use Rattle.pdus.specs.ClnpBase.Text.{words_of, ends_word}
use Rattle.pdus.proofs.ClnpBase.Choices.{below_not}
use Rattle.pdus.specs.ClnpOptions.Grammar.{joined}
use Rattle.pdus.specs.ClnpOptions.Parameter.{spelled}
use Rattle.pdus.specs.PduHeader.Spelling.{counted, pair_of}
use Rattle.pdus.specs.declared.esis_pdus.pdu.EsisBody.{EsisBody}
use Rattle.pdus.specs.declared.esis_pdus.pdu.EsisBody.TheVariants.{Esh, Ish, Rd}
use Rattle.pdus.specs.EsisPdus.Value.{EsisValue}
use Rattle.pdus.specs.EsisPdus.Spelling.{type_code, title_octets, body_octets, variable_part, header_length}
use Rattle.pdus.specs.EsisPdus.Grammar.{IsPdu}
use Rattle.pdus.proofs.EsisPdus.FieldFacts.{joined_long}
use Rattle.pdus.proofs.EsisPdus.Frames.{laid_out}
use Rattle.captures.specs.Words.{pair_word, options_text, checksum_of}
use Rattle.captures.specs.EsisShown.{esis_word, body_text, esis_text, ShowsEsis}
use Rattle.captures.specs.CaptureText.Said.{Said, nothing}
use Rattle.captures.specs.CaptureText.Words.{says_words}
use Rattle.captures.specs.CaptureText.Laid.{laid, esis_frame, frame_of}
use Rattle.pdus.proofs.ClnpBase.PlainWords.{IsWord, known, first_word}
use Rattle.captures.proofs.CaptureText.Bytes.{left_bytes, right_bytes}
use Rattle.captures.proofs.CaptureText.Checksums.{nine, checksum_is, behind_nine}
use Rattle.captures.proofs.CaptureText.Steps.{step_hold, step_sum, step_to, step_via, step_title, step_addresses, step_options, ends_addresses, ends_options, last_rest}

-- ---- what stands behind the fixed part, without the number of addresses

abbrev fields_octets : EsisBody → List ℕ
fields_octets (Esh addresses) = joined addresses
fields_octets (Ish title) = counted title
fields_octets (Rd to via title) = counted to ++ (counted via ++ counted (title_octets title))

-- the number of addresses, in an end system hello
abbrev counts_of : EsisBody → List ℕ
counts_of (Esh addresses) = length addresses ∷ []
counts_of (Ish title) = []
counts_of (Rd to via title) = []

abbrev address_count : EsisBody → ℕ
address_count (Esh addresses) = length addresses
address_count (Ish title) = 0
address_count (Rd to via title) = 0

body_is : (body : EsisBody) → body_octets body ≡ counts_of body ++ fields_octets body
body_is (Esh addresses) = refl
body_is (Ish title) = refl
body_is (Rd to via title) = refl

-- the address parts of a body are short enough to be counted
abbrev IsCounted : EsisBody → Type 0
IsCounted (Esh addresses) = length addresses ≤ 255
IsCounted (Ish title) = length title < 256
IsCounted (Rd to via title) = (length to < 256) × (length via < 256) × (length (title_octets title) < 256)

ends_body : (body : EsisBody) (rest : List ℕ) → ends_word rest ≡ true → ends_word (body_text body ++ rest) ≡ true
unfolding body_text
ends_body (Esh addresses) rest ends = ends_addresses addresses rest ends
ends_body (Ish title) rest ends = refl
ends_body (Rd to via title) rest ends = refl

-- what is said where nothing of a header's variable part was said before
step_body : (body : EsisBody) (said : Said) (rest : List ℕ) → said.part ≡ [] → said.addresses ≡ 0 → IsBytes (fields_octets body) → IsCounted body → ends_word rest ≡ true
    → says_words said (words_of (body_text body ++ rest))
    ≡ says_words (record said { part = fields_octets body; addresses = address_count body }) (words_of rest)
unfolding body_text
step_body (Esh addresses) said rest none zero bytes few ends =
    step_addresses addresses said rest bytes (omega (arith, zero)) ends
    ∙ ap (λ (t : List ℕ). says_words (record said { part = t ++ joined addresses; addresses = said.addresses + length addresses }) (words_of rest)) none
    ∙ ap (λ (n : ℕ). says_words (record said { part = joined addresses; addresses = n }) (words_of rest)) {x = said.addresses + length addresses} {y = length addresses} (omega (arith, zero))
step_body (Ish title) said rest none zero bytes few ends =
    let inside : IsBytes title = λ k. bytes (suc k) in
    step_title said title rest inside few ends
    ∙ ap (λ (t : List ℕ). says_words (record said { part = t ++ counted title }) (words_of rest)) none
    ∙ ap (λ (n : ℕ). says_words (record said { part = counted title; addresses = n }) (words_of rest)) zero
step_body (Rd to via title) said rest none zero bytes few ends =
    let name : List ℕ = title_octets title in
    let in_to : IsBytes to = left_bytes to (counted via ++ counted name) (λ k. bytes (suc k)) in
    let others : IsBytes (counted via ++ counted name) = right_bytes to (counted via ++ counted name) (λ k. bytes (suc k)) in
    let in_via : IsBytes via = left_bytes via (counted name) (λ k. others (suc k)) in
    let last : IsBytes (counted name) = right_bytes via (counted name) (λ k. others (suc k)) in
    let in_name : IsBytes name = λ k. last (suc k) in
    let a : Said = record said { part = said.part ++ counted to } in
    let b : Said = record said { part = (said.part ++ counted to) ++ counted via } in
    ap (λ (t : List ℕ). says_words said (words_of (codes " to=" ++ t))) (append_assoc (hex_text to) (codes " via=" ++ (hex_text via ++ (codes " title=" ++ hex_text name))) rest)
    ∙ step_to said to ((codes " via=" ++ (hex_text via ++ (codes " title=" ++ hex_text name))) ++ rest) in_to few.0 refl
    ∙ ap (λ (t : List ℕ). says_words a (words_of (codes " via=" ++ t))) (append_assoc (hex_text via) (codes " title=" ++ hex_text name) rest)
    ∙ step_via a via (codes " title=" ++ (hex_text name ++ rest)) in_via few.1 refl
    ∙ step_title b name rest in_name few.2 ends
    ∙ ap (λ (t : List ℕ). says_words (record said { part = ((t ++ counted to) ++ counted via) ++ counted name }) (words_of rest)) none
    ∙ ap (λ (t : List ℕ). says_words (record said { part = t }) (words_of rest)) (append_assoc (counted to) (counted via) (counted name))
    ∙ ap (λ (n : ℕ). says_words (record said { part = counted to ++ (counted via ++ counted name); addresses = n }) (words_of rest)) zero

-- ---- the line as words

word_is : (body : EsisBody) → IsWord (esis_word body)
word_is (Esh addresses) = known (codes "esh") refl
word_is (Ish title) = known (codes "ish") refl
word_is (Rd to via title) = known (codes "rd") refl

-- the line from the holding time on
abbrev fields : EsisValue → ℕ → List ℕ → List ℕ
fields v sum rest =
    codes " hold=" ++ (decimal v.holding ++ (codes " sum=" ++ (pair_word sum ++ (body_text v.body ++ (options_text v.options ++ (codes " rest=" ++ hex_text rest))))))

-- the facts of a value by which its fields are read
record AreRead (v : EsisValue) (rest : List ℕ) : Type 0 where
  hold : v.holding < 2 ^ 16
  addresses : IsBytes (fields_octets v.body)
  few : IsCounted v.body
  options : IsBytes (spelled v.options)
  rest_bytes : IsBytes rest

all_said : EsisValue → ℕ → List ℕ → Said
all_said v sum rest =
    record { number = v.holding; sum = pair_of sum; addresses = address_count v.body; part = fields_octets v.body ++ spelled v.options; size = 0; behind = rest }

fields_say : (v : EsisValue) (sum : ℕ) (rest : List ℕ) → AreRead v rest → says_words nothing (words_of (fields v sum rest)) ≡ Some (all_said v sum rest)
unfolding all_said
fields_say v sum rest h =
    let rest_text : List ℕ = codes " rest=" ++ hex_text rest in
    let options : List ℕ = options_text v.options ++ rest_text in
    let ends : ends_word options ≡ true = ends_options v.options rest_text refl in
    let a : Said = record nothing { number = v.holding } in
    let b : Said = record a { sum = pair_of sum } in
    let d : Said = record b { part = fields_octets v.body; addresses = address_count v.body } in
    let e : Said = record d { part = fields_octets v.body ++ spelled v.options } in
    step_hold nothing v.holding (codes " sum=" ++ (pair_word sum ++ (body_text v.body ++ options))) h.hold refl
    ∙ step_sum a sum (body_text v.body ++ options) (ends_body v.body options ends)
    ∙ step_body v.body b options refl refl h.addresses h.few ends
    ∙ step_options v.options d rest_text h.options refl
    ∙ last_rest e rest h.rest_bytes

-- ---- the frame

abbrev octets_of : EsisValue → ℕ → ℕ → List ℕ → List ℕ
octets_of v x y rest =
    nine 0x82 (header_length v) 1 0 (type_code v.body) (get_or (pair_of v.holding) 0 0) (get_or (pair_of v.holding) 1 0) x y (variable_part v ++ rest)

variable_is : (v : EsisValue) → variable_part v ≡ counts_of v.body ++ (fields_octets v.body ++ spelled v.options)
variable_is v = ap (λ (t : List ℕ). t ++ spelled v.options) (body_is v.body) ∙ append_assoc (counts_of v.body) (fields_octets v.body) (spelled v.options)

fits_frame : (type : ℕ) (counts : List ℕ) (said : Said) → 9 + length counts + length said.part ≤ 254
    → esis_frame type counts said ≡ Some (laid (0x82 ∷ (9 + length counts + length said.part) ∷ 1 ∷ 0 ∷ type ∷ []) said.number counts said)
fits_frame type counts said short =
    ap (λ (t : Bool). if t then None else Some (laid (0x82 ∷ (9 + length counts + length said.part) ∷ 1 ∷ 0 ∷ type ∷ []) said.number counts said))
    (below_not 254 (9 + length counts + length said.part) short)

-- where all is said, it is laid out as those octets
laid_as : (v : EsisValue) (sum x y : ℕ) (rest : List ℕ) → IsPdu v → pair_of sum ≡ x ∷ y ∷ []
    → esis_frame (type_code v.body) (counts_of v.body) (all_said v sum rest) ≡ Some (octets_of v x y rest)
unfolding all_said
laid_as v sum x y rest pdu sum_is =
    let counts : List ℕ = counts_of v.body in
    let part : List ℕ = fields_octets v.body ++ spelled v.options in
    let high : ℕ = get_or (pair_of v.holding) 0 0 in
    let low : ℕ = get_or (pair_of v.holding) 1 0 in
    let size : 9 + length counts + length part ≡ header_length v = omega (arith, ap length (variable_is v), length-append counts part) in
    let short : 9 + length counts + length part ≤ 254 = omega (arith, size, pdu.header_fits) in
    fits_frame (type_code v.body) counts (all_said v sum rest) short
    ∙ ap (λ (n : ℕ). Some (laid (0x82 ∷ n ∷ 1 ∷ 0 ∷ type_code v.body ∷ []) v.holding counts (all_said v sum rest))) size
    ∙ ap (λ (t : List ℕ). Some (0x82 ∷ header_length v ∷ 1 ∷ 0 ∷ type_code v.body ∷ (pair_of v.holding ++ t ++ counts ++ part ++ rest))) sum_is
    ∙ ap (λ (t : List ℕ). Some (nine 0x82 (header_length v) 1 0 (type_code v.body) high low x y (t ++ rest))) (sym (variable_is v))

-- the frame of a line of each kind, once its words are read
kind_read : (body : EsisBody) (words : List (List ℕ)) (said : Said) → says_words nothing words ≡ Some said → said.addresses ≡ address_count body
    → frame_of (esis_word body ∷ words) ≡ esis_frame (type_code body) (counts_of body) said
unfolding frame_of
kind_read (Esh addresses) words said says count =
    ap (λ (o : Option Said). option_and_then (λ (s : Said). esis_frame 2 (s.addresses ∷ []) s) o) says
    ∙ ap (λ (n : ℕ). esis_frame 2 (n ∷ []) said) count
kind_read (Ish title) words said says count = ap (λ (o : Option Said). option_and_then (esis_frame 4 []) o) says
kind_read (Rd to via title) words said says count = ap (λ (o : Option Said). option_and_then (esis_frame 6 []) o) says

frame_from : (v : EsisValue) (sum x y : ℕ) (rest : List ℕ) → IsPdu v → AreRead v rest → pair_of sum ≡ x ∷ y ∷ []
    → frame_of (words_of (esis_text v sum rest)) ≡ Some (octets_of v x y rest)
unfolding all_said
frame_from v sum x y rest pdu read sum_is =
    ap (λ (ws : List (List ℕ)). frame_of ws) (first_word (esis_word v.body) (fields v sum rest) (word_is v.body) refl)
    ∙ kind_read v.body (words_of (fields v sum rest)) (all_said v sum rest) (fields_say v sum rest read) refl
    ∙ laid_as v sum x y rest pdu sum_is

-- ---- the facts

counted_if : (body : EsisBody) → length (body_octets body) ≤ 245 → IsCounted body
counted_if (Esh addresses) few = omega (arith, joined_long addresses)
counted_if (Ish title) few = omega arith
counted_if (Rd to via title) few =
    let size = length-append (counted to) (counted via ++ counted (title_octets title)) in
    let others = length-append (counted via) (counted (title_octets title)) in
    (omega (arith, size), omega (arith, size, others), omega (arith, size, others))

are_read : (v : EsisValue) (rest : List ℕ) → IsPdu v → IsBytes (variable_part v ++ rest) → AreRead v rest
are_read v rest pdu bytes =
    let part : IsBytes (variable_part v) = left_bytes (variable_part v) rest bytes in
    let body : IsBytes (body_octets v.body) = left_bytes (body_octets v.body) (spelled v.options) part in
    record {
      hold = pdu.holding;
      addresses = right_bytes (counts_of v.body) (fields_octets v.body) (subst IsBytes (body_is v.body) body);
      few = counted_if v.body (omega (arith, pdu.header_fits, length-append (body_octets v.body) (spelled v.options)));
      options = right_bytes (body_octets v.body) (spelled v.options) part;
      rest_bytes = right_bytes (variable_part v) rest bytes;
    }

pub read_esis : (frame line : List ℕ) → IsBytes frame → ShowsEsis frame line → frame_of (words_of line) ≡ Some frame
read_esis frame line bytes shows =
    let v : EsisValue = shows.value in
    let rest : List ℕ = shows.rest in
    let pdu : IsPdu v = shows.begins.spells.pdu in
    let out = laid_out v in
    let is : frame ≡ octets_of v out.x out.y rest =
    shows.begins.split ∙ ap (λ (t : List ℕ). t ++ rest) (shows.begins.spells.octets_are ∙ out.layout) in
    let octets : IsBytes (octets_of v out.x out.y rest) = subst IsBytes is bytes in
    let high : ℕ = get_or (pair_of v.holding) 0 0 in
    let low : ℕ = get_or (pair_of v.holding) 1 0 in
    let behind : IsBytes (variable_part v ++ rest) = behind_nine 0x82 (header_length v) 1 0 (type_code v.body) high low out.x out.y (variable_part v ++ rest) octets in
    let sum_is : pair_of (checksum_of frame) ≡ out.x ∷ out.y ∷ [] =
    ap (λ (t : List ℕ). pair_of (checksum_of t)) is
    ∙ checksum_is 0x82 (header_length v) 1 0 (type_code v.body) high low out.x out.y (variable_part v ++ rest) octets (omega arith) in
    ap (λ (t : List ℕ). frame_of (words_of t)) shows.text
    ∙ frame_from v (checksum_of frame) out.x out.y rest pdu (are_read v rest pdu behind) sum_is
    ∙ ap (λ (t : List ℕ). Some t) (sym is)
