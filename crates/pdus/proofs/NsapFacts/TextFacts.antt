-- Facts on the digits of a text that the reader meets one by one.
use Rattle.std.proofs.Common.{◌≡◌, ℕ, ◌+◌, ◌<◌, ◌≤◌, List, length, take, drop, get_or, set, arith, ap, ◌∙◌, sym, refl, not, true, false, ◌%◌, inl, inr, length-take-le}
use Rattle.std.proofs.lemmas.List.{append-nil, length-append, take-append-drop, take_more_set}
use Rattle.std.proofs.lemmas.List.Elements.{filter-append, filter_more}
use Rattle.std.proofs.lemmas.List.Filters.{length-filter_more}
use Rattle.std.specs.Prelude.{◌/◌, Option, Some, None, Result, Ok, Err, MatchResult, is_err}
use Rattle.std.proofs.lemmas.Bool.{cases_eq, eq-eqb, ne_eqb}
use Rattle.hex.specs.Hex.{decode_of, decode_sized}
use Rattle.hex.specs.declared.error.FromHexError.{FromHexError}
use Rattle.hex.proofs.HexLemmas.{decode_of-odd, decode_of-ok, decode_sized-odd, decode_sized-twice}
use Rattle.pdus.specs.Nsap.Address.{address_of}
use Rattle.pdus.specs.Nsap.Text.{address_spelled, bad_digit, is_dot, octets_of, octets_or_fault, without_dots}
use Rattle.pdus.specs.declared.nsap.fault.NsapFault.TheVariants.{Length, BadDigit}

-- a further digit
pub digits_more : (text digits : List ℕ) (i k : ℕ) → i < length text → k < length digits → (get_or text i 0 ≡ 46 → ⊥)
    → take k digits ≡ without_dots (take i text)
    → take (k + 1) (set digits k (get_or text i 0)) ≡ without_dots (take (i + 1) text)
digits_more text digits i k within room digit so_far =
    let more = filter_more (λ c. not (is_dot c)) text i 0 within in
    let one = take_more_set digits k (get_or text i 0) room in
    let no = ne_eqb (get_or text i 0) 46 digit in
    rw (more, no, one, so_far) refl

-- a dot is skipped
pub digits_same : (text digits : List ℕ) (i k : ℕ) → i < length text → get_or text i 0 ≡ 46
    → take k digits ≡ without_dots (take i text)
    → take k digits ≡ without_dots (take (i + 1) text)
digits_same text digits i k within dot so_far =
    let more = filter_more (λ c. not (is_dot c)) text i 0 within in
    let yes = eq-eqb (get_or text i 0) 46 dot in
    rw (more, yes, append-nil, so_far) refl

-- the digits of a beginning are no more than all
digits_of_take : (text : List ℕ) (n : ℕ) → length (without_dots (take n text)) ≤ length (without_dots text)
digits_of_take text n =
    let whole = ap without_dots (take-append-drop n text) in
    let parts = filter-append (λ c. not (is_dot c)) (take n text) (drop n text) in
    let sizes = ap length (sym parts ∙ whole) in
    omega (arith, sizes, length-append (without_dots (take n text)) (without_dots (drop n text)))

-- a digit past forty
pub digits_past : (text : List ℕ) (i : ℕ) → i < length text → (get_or text i 0 ≡ 46 → ⊥)
    → 40 ≤ length (without_dots (take i text)) → 40 < length (without_dots text)
digits_past text i within digit full =
    let more = length-filter_more (λ c. not (is_dot c)) text i 0 within in
    let no = ne_eqb (get_or text i 0) 46 digit in
    let step = rw no at more in
    omega (arith, step, digits_of_take text (i + 1))

-- ---- what a text is read as

-- a bad character
pub read_bad : (text : List ℕ) (place : ℕ) → bad_digit text ≡ Some place → octets_of text ≡ Err (BadDigit place)
unfolding octets_of
read_bad text place bad = ap (λ (b : Option ℕ). octets_or_fault b (without_dots text)) bad

-- no bad character
pub read_good : (text digits : List ℕ) → bad_digit text ≡ None → digits ≡ without_dots text
    → octets_of text ≡ address_spelled (decode_of digits)
unfolding octets_of
read_good text digits good same =
    ap (λ (b : Option ℕ). octets_or_fault b (without_dots text)) good
    ∙ ap (λ (d : List ℕ). address_spelled (decode_of d)) (sym same)

-- more than twenty octets are no address
address_of-long : (octets : List ℕ) → 20 < length octets → address_of octets ≡ Err Length
address_of-long octets long = grind (arith)

-- more than forty digits spell no address
spelled_long : (digits : List ℕ) (r : Result (List ℕ) FromHexError) → decode_of digits ≡ r → 40 < length digits
    → address_spelled r ≡ Err Length
spelled_long digits (Ok octets) is long =
    let sizes = (decode_of-ok digits octets is).2 in
    address_of-long octets (omega (arith, sizes))
spelled_long digits (Err e) is long = refl

-- more than forty digits
pub read_many : (text : List ℕ) → bad_digit text ≡ None → 40 < length (without_dots text) → octets_of text ≡ Err Length
read_many text good many =
    read_good text (without_dots text) good refl ∙ spelled_long (without_dots text) (decode_of (without_dots text)) refl many

-- decoding into half as many octets is decoding
sized_half : (digits : List ℕ) (n : ℕ) → n ≡ length digits / 2 → decode_sized digits n ≡ decode_of digits
sized_half digits n half =
    elim (cases_eq (length digits % 2) 1) [
      | inl odd ↦ decode_sized-odd digits n odd ∙ sym (decode_of-odd digits odd)
      | inr even ↦ decode_sized-twice digits n (omega arith)
    ]

-- what decoding into octets answered
abbrev pub Decoded : Result (List ℕ) FromHexError → List ℕ → Result (Unit {0}) FromHexError → Type 0
Decoded r octets answer = MatchResult r (λ bytes. (answer ≡ Ok tt) × (octets ≡ bytes)) (λ e. answer ≡ Err e)

refused_by : (r : Result (List ℕ) FromHexError) (octets : List ℕ) (answer : Result (Unit {0}) FromHexError)
    → Decoded r octets answer → is_err answer ≡ true → address_spelled r ≡ Err Length
refused_by (Ok bytes) octets answer h refused = cc h.0
refused_by (Err e) octets answer h refused = refl

taken_by : (r : Result (List ℕ) FromHexError) (octets : List ℕ) (answer : Result (Unit {0}) FromHexError)
    → Decoded r octets answer → is_err answer ≡ false → address_spelled r ≡ address_of octets
taken_by (Ok bytes) octets answer h taken = ap address_of (sym h.1)
taken_by (Err e) octets answer h taken = cc h

-- the digits were refused
pub read_refused : (text digits : List ℕ) (n : ℕ) (octets : List ℕ) (answer : Result (Unit {0}) FromHexError)
    → bad_digit text ≡ None → digits ≡ without_dots text → n ≡ length digits / 2
    → Decoded (decode_sized digits n) octets answer → is_err answer ≡ true → octets_of text ≡ Err Length
read_refused text digits n octets answer good same half decoded refused =
    read_good text digits good same
    ∙ refused_by (decode_of digits) octets answer (rw (sized_half digits n half) at decoded) refused

-- the digits were decoded
pub read_whole : (text digits : List ℕ) (n : ℕ) (octets : List ℕ) (answer : Result (Unit {0}) FromHexError)
    → bad_digit text ≡ None → digits ≡ without_dots text → n ≡ length digits / 2
    → Decoded (decode_sized digits n) octets answer → is_err answer ≡ false → octets_of text ≡ address_of octets
read_whole text digits n octets answer good same half decoded taken =
    read_good text digits good same
    ∙ taken_by (decode_of digits) octets answer (rw (sized_half digits n half) at decoded) taken

-- room for half as many octets as digits
pub halves : (count : ℕ) (digits zeros : List ℕ) → count ≤ 40 → length digits ≡ 40 → length zeros ≡ 20
    → length (take (count / 2) zeros) ≡ length (take count digits) / 2
halves count digits zeros few wide room =
    let a = length-take-le (count / 2) zeros (omega arith) in
    let b = length-take-le count digits (omega arith) in
    rw (a, b) refl
