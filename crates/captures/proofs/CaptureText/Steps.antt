-- The words of a shown line, read one after another.
use Rattle.std.proofs.Common.{◌≡◌, ℕ, suc, ◌+◌, ◌/◌, ◌^◌, ◌<◌, ◌≤◌, Bool, true, if◌then◌else◌, List, [], ◌∷◌, ◌++◌, length, codes, Option, Some, None, Result, refl, sym, ap, ◌∙◌, append_assoc, append-nil, arith}
use Rattle.std.specs.Prelude.{option_map, option_and_then}
use Rattle.std.specs.List.{AllByRecursion}
use Rattle.std.specs.Fmt.{decimal}
use Rattle.hex.specs.Hex.{IsBytes}
use Rattle.hex.specs.declared.error.FromHexError.{FromHexError}
use Rattle.hex.proofs.HexLemmas.{decode_sized-encode_lower}
use Rattle.pdus.specs.Nsap.Text.{hex_text}
use Rattle.pdus.specs.ClnpBase.Text.{words_of, ends_word}
use Rattle.pdus.proofs.ClnpBase.Choices.{below_not}
use Rattle.pdus.proofs.ClnpBase.Lists.{AllByRecursion-append}
use Rattle.pdus.specs.ClnpOptions.Grammar.{joined}
use Rattle.pdus.specs.ClnpOptions.Parameter.{Parameter, spelled, spelling}
use Rattle.pdus.specs.PduHeader.Spelling.{pair_of, counted, segmentation_octets}
use Rattle.pdus.specs.PduHeader.Value.{SegmentationPart}
use Rattle.captures.specs.Words.{octet_word, pair_word, options_text}
use Rattle.captures.specs.Shown.{segmentation_text}
use Rattle.captures.specs.EsisShown.{addresses_text}
use Rattle.captures.specs.CaptureText.Said.{Said, octets_in, with_octets, with_counted, with_number, with_option}
use Rattle.captures.specs.CaptureText.Words.{says_word, says_address, says_field, says_words}
use Rattle.pdus.proofs.ClnpBase.PlainWords.{IsPlain, IsWord, keyed, first_word, last_word, hex_plain, decimal_plain}
use Rattle.captures.proofs.CaptureText.Bytes.{left_bytes, right_bytes, pair_bytes, one_byte}
use Rattle.captures.proofs.CaptureText.ReadBack.{octets_read, half, counted_read, option_read, number_read, number_put}

-- ---- one word

-- a word behind a space says what is said from then on
pub step : (said now : Said) (word rest : List ℕ) → IsWord word → ends_word rest ≡ true → says_word said word ≡ Some now
    → says_words said (words_of (32 ∷ (word ++ rest))) ≡ says_words now (words_of rest)
step said now word rest is ends says =
    ap (λ (words : List (List ℕ)). says_words said words) (first_word word rest is ends)
    ∙ ap (λ (o : Option Said). option_and_then (λ (s : Said). says_words s (words_of rest)) o) says

last_step : (said now : Said) (word : List ℕ) → IsWord word → says_word said word ≡ Some now
    → says_words said (words_of (32 ∷ word)) ≡ Some now
last_step said now word is says =
    ap (λ (words : List (List ℕ)). says_words said words) (last_word word is)
    ∙ ap (λ (o : Option Said). option_and_then (λ (s : Said). says_words s []) o) says

put_part : (said : Said) (found : Option (List ℕ)) (part : List ℕ) → found ≡ Some part
    → option_map (λ (octets : List ℕ). record said { part = octets }) found ≡ Some (record said { part = part })
put_part said found part e = ap (λ (o : Option (List ℕ)). option_map (λ (octets : List ℕ). record said { part = octets }) o) e

-- ---- the fixed part

life_said : (said : Said) (n : ℕ) → n < 2 ^ 16 → says_word said (codes "life=" ++ decimal n) ≡ Some (record said { number = n })
unfolding says_word
life_said said n small = ap (λ (o : Option ℕ). option_map (λ (m : ℕ). record said { number = m }) o) (number_read n small)

hold_said : (said : Said) (n : ℕ) → n < 2 ^ 16 → says_word said (codes "hold=" ++ decimal n) ≡ Some (record said { number = n })
unfolding says_word
hold_said said n small = ap (λ (o : Option ℕ). option_map (λ (m : ℕ). record said { number = m }) o) (number_read n small)

sum_said : (said : Said) (n : ℕ) → says_word said (codes "sum=" ++ pair_word n) ≡ Some (record said { sum = pair_of n })
unfolding says_word
sum_said said n =
    ap (λ (r : Result (List ℕ) FromHexError). option_map (λ (octets : List ℕ). record said { sum = octets }) (octets_in r))
    (decode_sized-encode_lower (pair_of n) 2 refl (pair_bytes n))

pub step_life : (said : Said) (n : ℕ) (rest : List ℕ) → n < 2 ^ 16 → ends_word rest ≡ true
    → says_words said (words_of (codes " life=" ++ (decimal n ++ rest))) ≡ says_words (record said { number = n }) (words_of rest)
step_life said n rest small ends =
    step said (record said { number = n }) (codes "life=" ++ decimal n) rest (keyed (codes "life=") (decimal n) refl (decimal_plain n)) ends (life_said said n small)

pub step_hold : (said : Said) (n : ℕ) (rest : List ℕ) → n < 2 ^ 16 → ends_word rest ≡ true
    → says_words said (words_of (codes " hold=" ++ (decimal n ++ rest))) ≡ says_words (record said { number = n }) (words_of rest)
step_hold said n rest small ends =
    step said (record said { number = n }) (codes "hold=" ++ decimal n) rest (keyed (codes "hold=") (decimal n) refl (decimal_plain n)) ends (hold_said said n small)

pub step_sum : (said : Said) (n : ℕ) (rest : List ℕ) → ends_word rest ≡ true
    → says_words said (words_of (codes " sum=" ++ (pair_word n ++ rest))) ≡ says_words (record said { sum = pair_of n }) (words_of rest)
step_sum said n rest ends =
    step said (record said { sum = pair_of n }) (codes "sum=" ++ pair_word n) rest (keyed (codes "sum=") (pair_word n) refl (hex_plain (pair_of n) (pair_bytes n))) ends (sum_said said n)

-- ---- addresses

to_said : (said : Said) (xs : List ℕ) → IsBytes xs → length xs < 256 → says_word said (codes "to=" ++ hex_text xs) ≡ Some (record said { part = said.part ++ counted xs })
unfolding says_word says_address
to_said said xs bytes few = put_part said (with_counted said.part (hex_text xs)) (said.part ++ counted xs) (counted_read said.part xs bytes few)

from_said : (said : Said) (xs : List ℕ) → IsBytes xs → length xs < 256 → says_word said (codes "from=" ++ hex_text xs) ≡ Some (record said { part = said.part ++ counted xs })
unfolding says_word says_address
from_said said xs bytes few = put_part said (with_counted said.part (hex_text xs)) (said.part ++ counted xs) (counted_read said.part xs bytes few)

via_said : (said : Said) (xs : List ℕ) → IsBytes xs → length xs < 256 → says_word said (codes "via=" ++ hex_text xs) ≡ Some (record said { part = said.part ++ counted xs })
unfolding says_word says_address
via_said said xs bytes few = put_part said (with_counted said.part (hex_text xs)) (said.part ++ counted xs) (counted_read said.part xs bytes few)

title_said : (said : Said) (xs : List ℕ) → IsBytes xs → length xs < 256 → says_word said (codes "title=" ++ hex_text xs) ≡ Some (record said { part = said.part ++ counted xs })
unfolding says_word says_address
title_said said xs bytes few = put_part said (with_counted said.part (hex_text xs)) (said.part ++ counted xs) (counted_read said.part xs bytes few)

pub step_to : (said : Said) (xs rest : List ℕ) → IsBytes xs → length xs < 256 → ends_word rest ≡ true
    → says_words said (words_of (codes " to=" ++ (hex_text xs ++ rest))) ≡ says_words (record said { part = said.part ++ counted xs }) (words_of rest)
step_to said xs rest bytes few ends =
    step said (record said { part = said.part ++ counted xs }) (codes "to=" ++ hex_text xs) rest (keyed (codes "to=") (hex_text xs) refl (hex_plain xs bytes)) ends (to_said said xs bytes few)

pub step_from : (said : Said) (xs rest : List ℕ) → IsBytes xs → length xs < 256 → ends_word rest ≡ true
    → says_words said (words_of (codes " from=" ++ (hex_text xs ++ rest))) ≡ says_words (record said { part = said.part ++ counted xs }) (words_of rest)
step_from said xs rest bytes few ends =
    step said (record said { part = said.part ++ counted xs }) (codes "from=" ++ hex_text xs) rest (keyed (codes "from=") (hex_text xs) refl (hex_plain xs bytes)) ends (from_said said xs bytes few)

pub step_via : (said : Said) (xs rest : List ℕ) → IsBytes xs → length xs < 256 → ends_word rest ≡ true
    → says_words said (words_of (codes " via=" ++ (hex_text xs ++ rest))) ≡ says_words (record said { part = said.part ++ counted xs }) (words_of rest)
step_via said xs rest bytes few ends =
    step said (record said { part = said.part ++ counted xs }) (codes "via=" ++ hex_text xs) rest (keyed (codes "via=") (hex_text xs) refl (hex_plain xs bytes)) ends (via_said said xs bytes few)

pub step_title : (said : Said) (xs rest : List ℕ) → IsBytes xs → length xs < 256 → ends_word rest ≡ true
    → says_words said (words_of (codes " title=" ++ (hex_text xs ++ rest))) ≡ says_words (record said { part = said.part ++ counted xs }) (words_of rest)
step_title said xs rest bytes few ends =
    step said (record said { part = said.part ++ counted xs }) (codes "title=" ++ hex_text xs) rest (keyed (codes "title=") (hex_text xs) refl (hex_plain xs bytes)) ends (title_said said xs bytes few)

-- the addresses of an end system hello, which are counted
listed_said : (said : Said) (xs : List ℕ) → IsBytes xs → length xs < 256 → said.addresses < 255
    → says_word said (codes "addr=" ++ hex_text xs) ≡ Some (record said { part = said.part ++ counted xs; addresses = said.addresses + 1 })
unfolding says_word says_address
listed_said said xs bytes few room =
    ap (λ (b : Bool). if b then None else option_map (λ (octets : List ℕ). record said { part = octets; addresses = said.addresses + 1 }) (with_counted said.part (hex_text xs)))
    (below_not 254 said.addresses (omega arith))
    ∙ ap (λ (o : Option (List ℕ)). option_map (λ (octets : List ℕ). record said { part = octets; addresses = said.addresses + 1 }) o) (counted_read said.part xs bytes few)

pub ends_addresses : (list : List (List ℕ)) (rest : List ℕ) → ends_word rest ≡ true → ends_word (addresses_text list ++ rest) ≡ true
unfolding addresses_text
ends_addresses [] rest ends = ends
ends_addresses (xs ∷ others) rest ends = refl

same_said : (said : Said) (part other : List ℕ) (n m : ℕ) → part ≡ other → n ≡ m
    → (let s : Said = record said { part = part; addresses = n } in s) ≡ record said { part = other; addresses = m }
same_said said part other n m p q = rw (p, q) refl

pub step_addresses : (list : List (List ℕ)) (said : Said) (rest : List ℕ) → IsBytes (joined list) → said.addresses + length list ≤ 255 → ends_word rest ≡ true
    → says_words said (words_of (addresses_text list ++ rest))
    ≡ says_words (record said { part = said.part ++ joined list; addresses = said.addresses + length list }) (words_of rest)
unfolding addresses_text joined
step_addresses [] said rest bytes few ends =
    ap (λ (s : Said). says_words s (words_of rest))
    (same_said said said.part (said.part ++ []) said.addresses (said.addresses + 0) (sym (append-nil said.part)) (omega arith))
step_addresses (xs ∷ others) said rest bytes few ends =
    let count : length xs < 256 = bytes 0 in
    let inside : IsBytes xs = left_bytes xs (joined others) (λ k. bytes (suc k)) in
    let next : Said = record said { part = said.part ++ counted xs; addresses = said.addresses + 1 } in
    ap (λ (t : List ℕ). says_words said (words_of (codes " addr=" ++ t))) (append_assoc (hex_text xs) (addresses_text others) rest)
    ∙ step said next (codes "addr=" ++ hex_text xs) (addresses_text others ++ rest) (keyed (codes "addr=") (hex_text xs) refl (hex_plain xs inside))
    (ends_addresses others rest ends) (listed_said said xs inside count (omega arith))
    ∙ step_addresses others next rest (right_bytes xs (joined others) (λ k. bytes (suc k))) (omega arith) ends
    ∙ ap (λ (s : Said). says_words s (words_of rest))
    (same_said said ((said.part ++ counted xs) ++ joined others) (said.part ++ (counted xs ++ joined others)) (said.addresses + 1 + length others) (said.addresses + length (xs ∷ others))
    (append_assoc said.part (counted xs) (joined others)) (omega arith))

-- ---- the segmentation part

id_said : (said : Said) (n : ℕ) → says_word said (codes "id=" ++ pair_word n) ≡ Some (record said { part = said.part ++ pair_of n })
unfolding says_word says_address says_field
id_said said n = put_part said (with_octets said.part (pair_word n)) (said.part ++ pair_of n) (octets_read said.part (pair_of n) (pair_bytes n))

off_said : (said : Said) (n : ℕ) → n < 2 ^ 16 → says_word said (codes "off=" ++ decimal n) ≡ Some (record said { part = said.part ++ pair_of n })
unfolding says_word says_address says_field
off_said said n small = put_part said (with_number said.part (decimal n)) (said.part ++ pair_of n) (number_put said.part n small)

total_said : (said : Said) (n : ℕ) → n < 2 ^ 16 → says_word said (codes "total=" ++ decimal n) ≡ Some (record said { part = said.part ++ pair_of n })
unfolding says_word says_address says_field
total_said said n small = put_part said (with_number said.part (decimal n)) (said.part ++ pair_of n) (number_put said.part n small)

step_id : (said : Said) (n : ℕ) (rest : List ℕ) → ends_word rest ≡ true
    → says_words said (words_of (codes " id=" ++ (pair_word n ++ rest))) ≡ says_words (record said { part = said.part ++ pair_of n }) (words_of rest)
step_id said n rest ends =
    step said (record said { part = said.part ++ pair_of n }) (codes "id=" ++ pair_word n) rest (keyed (codes "id=") (pair_word n) refl (hex_plain (pair_of n) (pair_bytes n))) ends (id_said said n)

step_off : (said : Said) (n : ℕ) (rest : List ℕ) → n < 2 ^ 16 → ends_word rest ≡ true
    → says_words said (words_of (codes " off=" ++ (decimal n ++ rest))) ≡ says_words (record said { part = said.part ++ pair_of n }) (words_of rest)
step_off said n rest small ends =
    step said (record said { part = said.part ++ pair_of n }) (codes "off=" ++ decimal n) rest (keyed (codes "off=") (decimal n) refl (decimal_plain n)) ends (off_said said n small)

step_total : (said : Said) (n : ℕ) (rest : List ℕ) → n < 2 ^ 16 → ends_word rest ≡ true
    → says_words said (words_of (codes " total=" ++ (decimal n ++ rest))) ≡ says_words (record said { part = said.part ++ pair_of n }) (words_of rest)
step_total said n rest small ends =
    step said (record said { part = said.part ++ pair_of n }) (codes "total=" ++ decimal n) rest (keyed (codes "total=") (decimal n) refl (decimal_plain n)) ends (total_said said n small)

-- numbers that the text of a segmentation part can say
abbrev pub AreShort : Option SegmentationPart → Type 0
AreShort None = Unit {0}
AreShort (Some part) = (part.offset < 2 ^ 16) × (part.total < 2 ^ 16)

pub step_segmentation : (found : Option SegmentationPart) (said : Said) (rest : List ℕ) → AreShort found → ends_word rest ≡ true
    → says_words said (words_of (segmentation_text found ++ rest))
    ≡ says_words (record said { part = said.part ++ segmentation_octets found }) (words_of rest)
step_segmentation None said rest short ends =
    ap (λ (t : List ℕ). says_words (record said { part = t }) (words_of rest)) (sym (append-nil said.part))
step_segmentation (Some p) said rest short ends =
    let id : List ℕ = pair_of p.identifier in
    let off : List ℕ = pair_of p.offset in
    let total : List ℕ = pair_of p.total in
    let a : Said = record said { part = said.part ++ id } in
    let b : Said = record said { part = (said.part ++ id) ++ off } in
    ap (λ (t : List ℕ). says_words said (words_of (codes " id=" ++ t)))
    (append_assoc (pair_word p.identifier) (codes " off=" ++ (decimal p.offset ++ (codes " total=" ++ decimal p.total))) rest)
    ∙ step_id said p.identifier ((codes " off=" ++ (decimal p.offset ++ (codes " total=" ++ decimal p.total))) ++ rest) refl
    ∙ ap (λ (t : List ℕ). says_words a (words_of (codes " off=" ++ t))) (append_assoc (decimal p.offset) (codes " total=" ++ decimal p.total) rest)
    ∙ step_off a p.offset (codes " total=" ++ (decimal p.total ++ rest)) short.0 refl
    ∙ step_total b p.total rest short.1 ends
    ∙ ap (λ (t : List ℕ). says_words (record said { part = t }) (words_of rest))
    (append_assoc (said.part ++ id) off total ∙ append_assoc said.part id (off ++ total))

-- ---- options

opt_said : (said : Said) (option : Parameter) → option.code < 256 → IsBytes option.value → length option.value < 256
    → says_word said (codes "opt=" ++ (octet_word option.code ++ (codes ":" ++ hex_text option.value))) ≡ Some (record said { part = said.part ++ spelling option })
unfolding says_word says_address says_field
opt_said said option small bytes few =
    put_part said (with_option said.part (octet_word option.code ++ (codes ":" ++ hex_text option.value))) (said.part ++ spelling option) (option_read said.part option small bytes few)

opt_plain : (option : Parameter) → option.code < 256 → IsBytes option.value → AllByRecursion IsPlain (octet_word option.code ++ (codes ":" ++ hex_text option.value))
opt_plain option small bytes =
    AllByRecursion-append IsPlain (octet_word option.code) (codes ":" ++ hex_text option.value) (hex_plain (option.code ∷ []) (one_byte option.code small))
    (let colon : 32 < 58 = omega arith in (colon, hex_plain option.value bytes))

pub ends_options : (options : List Parameter) (rest : List ℕ) → ends_word rest ≡ true → ends_word (options_text options ++ rest) ≡ true
unfolding options_text
ends_options [] rest ends = ends
ends_options (option ∷ others) rest ends = refl

pub step_options : (options : List Parameter) (said : Said) (rest : List ℕ) → IsBytes (spelled options) → ends_word rest ≡ true
    → says_words said (words_of (options_text options ++ rest))
    ≡ says_words (record said { part = said.part ++ spelled options }) (words_of rest)
unfolding options_text spelled
step_options [] said rest bytes ends =
    ap (λ (t : List ℕ). says_words (record said { part = t }) (words_of rest)) (sym (append-nil said.part))
step_options (option ∷ others) said rest bytes ends =
    let small : option.code < 256 = bytes 0 in
    let few : length option.value < 256 = bytes 1 in
    let value : IsBytes option.value = left_bytes option.value (spelled others) (λ k. bytes (suc (suc k))) in
    let text : List ℕ = octet_word option.code ++ (codes ":" ++ hex_text option.value) in
    let next : Said = record said { part = said.part ++ spelling option } in
    ap (λ (t : List ℕ). says_words said (words_of (codes " opt=" ++ t))) (append_assoc text (options_text others) rest)
    ∙ step said next (codes "opt=" ++ text) (options_text others ++ rest) (keyed (codes "opt=") text refl (opt_plain option small value))
    (ends_options others rest ends) (opt_said said option small value few)
    ∙ step_options others next rest (right_bytes option.value (spelled others) (λ k. bytes (suc (suc k)))) ends
    ∙ ap (λ (t : List ℕ). says_words (record said { part = t }) (words_of rest)) (append_assoc said.part (spelling option) (spelled others))

-- ---- what stands behind the header

data_said : (said : Said) (xs : List ℕ) → IsBytes xs → says_word said (codes "data=" ++ hex_text xs) ≡ Some (record said { size = length xs; behind = said.behind ++ xs })
unfolding says_word
data_said said xs bytes =
    ap (λ (o : Option (List ℕ)). option_map (λ (octets : List ℕ). record said { size = length (hex_text xs) / 2; behind = octets }) o) (octets_read said.behind xs bytes)
    ∙ ap (λ (n : ℕ). Some (record said { size = n; behind = said.behind ++ xs })) (half xs)

rest_said : (said : Said) (xs : List ℕ) → IsBytes xs → says_word said (codes "rest=" ++ hex_text xs) ≡ Some (record said { behind = said.behind ++ xs })
unfolding says_word
rest_said said xs bytes = ap (λ (o : Option (List ℕ)). option_map (λ (octets : List ℕ). record said { behind = octets }) o) (octets_read said.behind xs bytes)

pub last_rest : (said : Said) (xs : List ℕ) → IsBytes xs → says_words said (words_of (codes " rest=" ++ hex_text xs)) ≡ Some (record said { behind = said.behind ++ xs })
last_rest said xs bytes =
    last_step said (record said { behind = said.behind ++ xs }) (codes "rest=" ++ hex_text xs) (keyed (codes "rest=") (hex_text xs) refl (hex_plain xs bytes)) (rest_said said xs bytes)

pub last_data : (said : Said) (body rest : List ℕ) → IsBytes body → IsBytes rest
    → says_words said (words_of (codes " data=" ++ (hex_text body ++ (codes " rest=" ++ hex_text rest)))) ≡ Some (record said { size = length body; behind = said.behind ++ body ++ rest })
last_data said body rest body_bytes rest_bytes =
    let next : Said = record said { size = length body; behind = said.behind ++ body } in
    step said next (codes "data=" ++ hex_text body) (codes " rest=" ++ hex_text rest) (keyed (codes "data=") (hex_text body) refl (hex_plain body body_bytes)) refl (data_said said body body_bytes)
    ∙ last_rest next rest rest_bytes
