-- What is written as words of a line is read as these words, and each word as what it was written of.
use Rattle.std.proofs.Common.{◌≡◌, ◌≢◌, ℕ, zero, suc, cond, ◌+◌, ◌-◌, ◌*◌, ◌/◌, ◌%◌, ◌^◌, ◌<◌, ◌≤◌, ◌==◌, ◌&&◌, nat_le, nat_lt, Bool, true, false, List, [], ◌∷◌, ◌++◌, length, drop, get_or, slice_get, slice_index, codes, inl, inr, Option, Some, Result, Ok, refl, sym, ap, subst, ◌∙◌, append_assoc, arith}
use Rattle.std.specs.List.{AllByRecursion, flat_map, list_all, position, position_or_len}
use Rattle.std.specs.Str.{bytes_eq}
use Rattle.std.specs.Cmp.Lexicographic.{bytes_decides}
use Rattle.std.specs.Fmt.{decimal, digits, digits_onto, digit_glyph}
use Rattle.std.specs.Int.{IsInRange}
use Rattle.std.proofs.Math.Seq.{take-append_seam, drop-append_seam}
use Rattle.std.proofs.lemmas.Bool.{true≢false, and_parts, and_right, cases_Bool, or_cases, ne_eqb, leb-true, le-leb, lt-ltb, ltb-true}
use Rattle.std.proofs.lemmas.Fmt.{decimal_is_IsNumeral, digits_decimal, digits_value-decimal}
use Rattle.std.proofs.lemmas.List.Sums.{position_or_len_is}
use Rattle.std.proofs.lemmas.Option.{slice_get_within, get_or_from_slice_get}
use Rattle.std.proofs.lemmas.Str.Parse.{IsDigitsTest, FoldsDigits, IsNumeralModel, numerals_by_fold}
use Rattle.hex.specs.Hex.{IsBytes, decode_of, encode_with, lower_digits, hex_digit_value}
use Rattle.hex.proofs.HexLemmas.{decode_of-encode_lower, IsDigits-lower_digits}
use Rattle.clnp_plan.specs.Nsap.Address.{IsAddress}
use Rattle.clnp_plan.specs.Nsap.Text as nsap
use Rattle.clnp_plan.specs.Nsap.Text.{hex_text}
use Rattle.clnp_plan.specs.Pdus.declared.nsap.target.Target.{Target}
use Rattle.clnp_plan.specs.Pdus.declared.nsap.target.Target.TheVariants.{System, EndSystems, Routers}
use Rattle.clnp_plan.specs.ClnpBase.Text.{words_of, lines_of, onto_first, ends_word, is_digit, decimal_of, is_skipped}
use Rattle.clnp_plan.proofs.ClnpBase.Decimals.{value_after}
use Rattle.clnp_plan.proofs.ClnpBase.Lists.{AllByRecursion-append, AllByRecursion-implies}
use Rattle.clnp_plan.specs.Configuration.{AreDistinct, IsWithin}
use Rattle.clnp_plan.specs.Journal as journal
use Rattle.clnp_plan.specs.Journal.{behind_space, line_of}
use Rattle.scenario.specs.ScenarioWriting.Canonical.{keyed, spelled_behind}
use Rattle.clnp_plan.specs.ScenarioPlan.Plan.{IsTarget}
use Rattle.scenario.specs.Words.{◌>>=◌, wanted, found, is_letter, is_letter_or_digit, is_name, declared_word, number_within, number_word, is_digits, address_read, address_word, after_prefix, digits_read, has_prefix, target_word, frame_word, octets_behind, number_behind}
use Rattle.scenario.specs.declared.code.Code.{Code}
use Rattle.scenario.specs.declared.code.Code.TheVariants as bad
use Rattle.clnp_plan.proofs.ClnpBase.Reading.{words_of-next, IsWithinLine, lines_of-line}
use Rattle.clnp_plan.proofs.ClnpBase.SameOctets.{same-itself}

-- ---- words of a line

-- a character that may stand in a word that is written: none of those that end a word or a line
abbrev pub IsPlain : ℕ → Type 0
IsPlain c = 32 < c

pub record IsWord (word : List ℕ) : Type 0 where
  pub some : 0 < length word
  pub plain : AllByRecursion IsPlain word

-- the test of a word that is known
abbrev pub is_spelled : List ℕ → Bool
is_spelled [] = false
is_spelled (c ∷ cs) = list_all (λ d. nat_lt 32 d) (c ∷ cs)

plain_all : (cs : List ℕ) → list_all (λ d. nat_lt 32 d) cs ≡ true → AllByRecursion IsPlain cs
plain_all [] h = tt
plain_all (c ∷ cs) h =
    let p = and_parts (nat_lt 32 c) (list_all (λ d. nat_lt 32 d) cs) h in
    (ltb-true 32 c p.0, plain_all cs p.1)

-- a word that is known is one: `spelled (codes "system") refl`
pub spelled : (word : List ℕ) → is_spelled word ≡ true → IsWord word
spelled [] h = absurd (true≢false (sym h))
spelled (c ∷ cs) h = record { some = omega arith; plain = plain_all (c ∷ cs) h }

-- a word and what follows it, to the next space
word_cut : (c : ℕ) (cs rest : List ℕ) → IsPlain c → AllByRecursion IsPlain cs → ends_word rest ≡ true → words_of (c ∷ (cs ++ rest)) ≡ (c ∷ cs) ∷ words_of rest
word_cut c [] rest p h e = rw (ne_eqb c 32 (omega arith), e) refl
word_cut c (d ∷ ds) rest p h e =
    words_of-next c d (ds ++ rest) (ne_eqb c 32 (omega arith)) (ne_eqb d 32 (omega (arith, h.0)))
    ∙ ap (λ words. onto_first c words) (word_cut d ds rest h.0 h.1 e)

pub ends_behind : (others : List (List ℕ)) → ends_word (flat_map behind_space others) ≡ true
ends_behind [] = refl
ends_behind (word ∷ others) = refl

-- the first word, and what follows it
pub first_word : (word rest : List ℕ) → IsWord word → ends_word rest ≡ true → words_of (word ++ rest) ≡ word ∷ words_of rest
first_word [] rest is e = absurd (omega (arith, is.some))
first_word (c ∷ cs) rest is e = word_cut c cs rest is.plain.0 is.plain.1 e

words_with : (first : List ℕ) (others : List (List ℕ)) → IsWord first → words_of (flat_map behind_space others) ≡ others
    → words_of (first ++ flat_map behind_space others) ≡ first ∷ others
words_with first others is e = first_word first (flat_map behind_space others) is (ends_behind others) ∙ ap (λ words. first ∷ words) e

words_behind : (others : List (List ℕ)) → AllByRecursion IsWord others → words_of (flat_map behind_space others) ≡ others
words_behind [] h = refl
words_behind (word ∷ others) h = words_with word others h.0 (words_behind others h.1)

pub words_of-line : (first : List ℕ) (others : List (List ℕ)) → IsWord first → AllByRecursion IsWord others
    → words_of (first ++ flat_map behind_space others) ≡ first ∷ others
words_of-line first others is are = words_with first others is (words_behind others are)

-- ---- lines of a text

-- no character of a word ends a line
abbrev pub IsInLine : List ℕ → Type 0
IsInLine word = AllByRecursion IsWithinLine word

pub plain_within : (c : ℕ) → 32 < c → IsWithinLine c
plain_within c h = (ne_eqb c 10 (omega arith), ne_eqb c 13 (omega arith))

pub word_in_line : (word : List ℕ) → IsWord word → IsInLine word
word_in_line word is = AllByRecursion-implies IsPlain IsWithinLine plain_within word is.plain

others_in_line : (others : List (List ℕ)) → AllByRecursion IsInLine others → IsInLine (flat_map behind_space others)
others_in_line [] h = tt
others_in_line (word ∷ others) h =
    AllByRecursion-append IsWithinLine (behind_space word) (flat_map behind_space others) ((refl, refl), h.0) (others_in_line others h.1)

-- a line that is written, without its end
abbrev pub text_of_line : List ℕ → List (List ℕ) → List ℕ
text_of_line first others = first ++ flat_map behind_space others

pub line_cut : (first : List ℕ) (others : List (List ℕ)) (more : List ℕ) → IsInLine first → AllByRecursion IsInLine others
    → lines_of (line_of first others ++ more) ≡ text_of_line first others ∷ lines_of more
line_cut first others more is are =
    let text = text_of_line first others in
    let cut : line_of first others ++ more ≡ text ++ (10 ∷ more) =
    append_assoc first (flat_map behind_space others ++ codes "\n") more
    ∙ ap (λ rest. first ++ rest) (append_assoc (flat_map behind_space others) (codes "\n") more)
    ∙ sym (append_assoc first (flat_map behind_space others) (10 ∷ more)) in
    ap (λ (all : List ℕ). lines_of all) cut
    ∙ lines_of-line text more (AllByRecursion-append IsWithinLine first (flat_map behind_space others) is (others_in_line others are))

pub line_read : (first : List ℕ) (others : List (List ℕ)) (more : List ℕ) → IsWord first → AllByRecursion IsWord others
    → lines_of (line_of first others ++ more) ≡ text_of_line first others ∷ lines_of more
line_read first others more is are =
    line_cut first others more (word_in_line first is) (AllByRecursion-implies IsWord IsInLine word_in_line others are)

-- a line that begins with a word is skipped only where that begins with `#`
pub line_not_skipped : (first : List ℕ) (others : List (List ℕ)) → IsWord first → is_skipped first ≡ false → is_skipped (text_of_line first others) ≡ false
line_not_skipped [] others is e = absurd (omega (arith, is.some))
line_not_skipped (c ∷ cs) others is e = e

-- ---- numbers

abbrev are_digits : List ℕ → Type 0
are_digits cs = list_all is_digit cs ≡ true

digit_within : (c : ℕ) → is_digit c ≡ true → IsInRange 48 57 c
digit_within c h = let p = and_parts (nat_le 48 c) (nat_le c 57) h in (leb-true 48 c p.0, leb-true c 57 p.1)

digit_is : (c : ℕ) → IsInRange 48 57 c → is_digit c ≡ true
digit_is c h = rw (le-leb 48 c h.0, le-leb c 57 h.1) refl

tells_digits : IsDigitsTest are_digits
tells_digits = record {
  empty = refl;
  parts = λ c cs h. let p = and_parts (is_digit c) (list_all is_digit cs) h in (digit_within c p.0, p.1);
  more = λ c cs h k. rw (digit_is c h, k) refl;
}

folds_digits : FoldsDigits value_after
folds_digits = record {
  empty = λ n. refl;
  more = λ n c cs h. ap (λ (m : ℕ). value_after m cs) {x = 10 * n + (c - 48)} {y = n * 10 + (c - 48)} (omega arith);
}

own : IsNumeralModel are_digits (value_after 0)
own = numerals_by_fold are_digits tells_digits value_after folds_digits

decimal_of-digits : (word : List ℕ) (n : ℕ) → 0 < length word → list_all is_digit word ≡ true → value_after 0 word ≡ n → n < 2 ^ 64 → decimal_of word ≡ Some n
decimal_of-digits [] n h d v small = absurd (omega arith)
decimal_of-digits (c ∷ cs) n h d v small = rw (d, v, lt-ltb n (2 ^ 64) small) refl

pub decimal_read : (n : ℕ) → n < 2 ^ 64 → decimal_of (decimal n) ≡ Some n
decimal_read n h =
    decimal_of-digits (decimal n) n (decimal_is_IsNumeral n h).0.0 (digits_decimal own n h) (digits_value-decimal own n h) h

-- the digits of a number
pub decimal_digits : (n : ℕ) → n < 2 ^ 64 → list_all is_digit (decimal n) ≡ true
decimal_digits n h = digits_decimal own n h

-- a digit
abbrev pub IsDigit : ℕ → Type 0
IsDigit c = (32 < c) × (c < 58)

glyph_digit : (d : ℕ) → d < 10 → IsDigit (digit_glyph false d)
glyph_digit d h = rw (lt-ltb d 10 h) (omega arith, omega arith)

digits_all : (k n : ℕ) (acc : List ℕ) → AllByRecursion IsDigit acc → AllByRecursion IsDigit (digits_onto k 10 false n acc)
digits_all zero n acc h = h
digits_all (suc k) n acc h =
    let g = digit_glyph false (n % 10) in
    let more : AllByRecursion IsDigit (g ∷ acc) = (glyph_digit (n % 10) (omega arith), h) in
    elim (n / 10 == 0) as (λ b. AllByRecursion IsDigit (cond b (g ∷ acc) (digits_onto k 10 false (n / 10) (g ∷ acc))))
    [ true ↦ more | false ↦ digits_all k (n / 10) (g ∷ acc) more ]

digits_some : (k n : ℕ) (acc : List ℕ) → 0 < length acc → 0 < length (digits_onto k 10 false n acc)
digits_some zero n acc h = h
digits_some (suc k) n acc h =
    let g = digit_glyph false (n % 10) in
    elim (n / 10 == 0) as (λ b. 0 < length (cond b (g ∷ acc) (digits_onto k 10 false (n / 10) (g ∷ acc))))
    [ true ↦ omega arith | false ↦ digits_some k (n / 10) (g ∷ acc) (omega arith) ]

digits_first : (k n : ℕ) → 0 < length (digits_onto (suc k) 10 false n [])
digits_first k n =
    let g = digit_glyph false (n % 10) in
    elim (n / 10 == 0) as (λ b. 0 < length (cond b (g ∷ []) (digits_onto k 10 false (n / 10) (g ∷ []))))
    [ true ↦ omega arith | false ↦ digits_some k (n / 10) (g ∷ []) (omega arith) ]

pub decimal_all : (n : ℕ) → AllByRecursion IsDigit (decimal n)
unfolding digits
decimal_all n = digits_all 64 n [] tt

pub decimal_is_word : (n : ℕ) → IsWord (decimal n)
unfolding digits
decimal_is_word n = record {
  some = digits_first 63 n;
  plain = AllByRecursion-implies IsDigit (λ c. 32 < c) (λ c d. d.0) (decimal n) (decimal_all n);
}

pub number_read : (low high n : ℕ) → low ≤ n → n ≤ high → n < 2 ^ 64 → number_word low high (decimal n) ≡ Ok n
number_read low high n l m h =
    ap (λ (o : Option ℕ). found (number_within low high o) bad.Number) (decimal_read n h) ∙ rw (le-leb low n l, le-leb n high m) refl

some_digits : (word : List ℕ) → 0 < length word → list_all is_digit word ≡ true → is_digits word ≡ true
some_digits [] some digits = absurd (omega arith)
some_digits (c ∷ cs) some digits = rw (ne_eqb (suc (length cs)) 0 (λ e. omega (arith, e))) digits

pub mtu_digits : (mtu : ℕ) → IsWithin 512 65535 mtu → is_digits (decimal mtu) ≡ true
mtu_digits mtu within =
    let most = within.most in
    let word = decimal_is_word mtu in
    some_digits (decimal mtu) word.some (decimal_digits mtu (omega arith))

pub mtu_read : (mtu : ℕ) → IsWithin 512 65535 mtu → number_within 512 65535 (decimal_of (decimal mtu)) ≡ Some mtu
mtu_read mtu within =
    let most = within.most in
    ap (number_within 512 65535) (decimal_read mtu (omega arith)) ∙ rw (le-leb 512 mtu within.least, le-leb mtu 65535 within.most) refl

-- ---- what stands behind a key

pub has_own_prefix : (key rest : List ℕ) → has_prefix key (key ++ rest) ≡ true
has_own_prefix key rest = ap (λ (front : List ℕ). bytes_eq front key) (take-append_seam key rest) ∙ same-itself key

pub read_behind : (key rest : List ℕ) → after_prefix key (key ++ rest) ≡ Ok rest
read_behind key rest =
    ap (λ (b : Bool). wanted b bad.Syntax >>= λ _. Ok (drop (length key) (key ++ rest))) (has_own_prefix key rest)
    ∙ ap (λ (left : List ℕ). Ok left) (drop-append_seam key rest)

pub number_read_behind : (key : List ℕ) (low high n : ℕ) → low ≤ n → n ≤ high → n < 2 ^ 64 → number_behind key low high (keyed key n) ≡ Ok n
number_read_behind key low high n l m h =
    ap (λ (r : Result (List ℕ) Code). r >>= number_word low high) (read_behind key (decimal n)) ∙ number_read low high n l m h

-- a key that is a word, and what follows it
pub word_behind : (key rest : List ℕ) → IsWord key → AllByRecursion IsPlain rest → IsWord (key ++ rest)
word_behind [] rest is plain = absurd (omega (arith, is.some))
word_behind (c ∷ cs) rest is plain = record { some = omega arith; plain = AllByRecursion-append IsPlain (c ∷ cs) rest is.plain plain }

pub keyed_is_word : (key : List ℕ) (n : ℕ) → IsWord key → IsWord (keyed key n)
keyed_is_word key n is = word_behind key (decimal n) is (decimal_is_word n).plain

-- ---- octets and addresses

hex_digit_plain : (c v : ℕ) → hex_digit_value c ≡ Some v → 32 < c
hex_digit_plain c v h = grind (arith)

pub digit_plain : (d : ℕ) → d < 16 → 32 < slice_index lower_digits d
digit_plain d h = hex_digit_plain (slice_index lower_digits d) d (IsDigits-lower_digits d h)

pub hex_plain : (octets : List ℕ) → IsBytes octets → AllByRecursion IsPlain (hex_text octets)
unfolding encode_with
hex_plain [] h = tt
hex_plain (octet ∷ octets) h =
    let small : octet < 256 = h 0 in
    (digit_plain (octet / 16) (omega arith), (digit_plain (octet % 16) (omega arith), hex_plain octets (λ i. h (suc i))))

hex_some : (octets : List ℕ) → 0 < length octets → 0 < length (hex_text octets)
unfolding encode_with
hex_some [] h = absurd (omega arith)
hex_some (octet ∷ octets) h = omega arith

pub hex_is_word : (octets : List ℕ) → IsBytes octets → 0 < length octets → IsWord (hex_text octets)
hex_is_word octets bytes some = record { some = hex_some octets some; plain = hex_plain octets bytes }

pub address_is_word : (octets : List ℕ) → IsAddress octets → IsWord (hex_text octets)
address_is_word octets is = hex_is_word octets is.bytes (omega (arith, is.some))

-- what the crate of addresses says of what is written of one
abbrev pub ReadsBack : Type 0
ReadsBack = (octets : List ℕ) → IsAddress octets → nsap.octets_of (hex_text octets) ≡ Ok octets

pub address_word_read : ReadsBack → (octets : List ℕ) → IsAddress octets → address_word (hex_text octets) ≡ Ok octets
address_word_read law octets is = ap address_read (law octets is)

pub frame_word_read : (octets : List ℕ) → IsBytes octets → frame_word (hex_text octets) ≡ Ok octets
frame_word_read octets bytes = ap digits_read (decode_of-encode_lower octets bytes)

pub spelled_is_word : (key octets : List ℕ) → IsWord key → IsBytes octets → IsWord (spelled_behind key octets)
spelled_is_word key octets is bytes = word_behind key (hex_text octets) is (hex_plain octets bytes)

pub octets_read_behind : (key octets : List ℕ) → IsBytes octets → octets_behind key (spelled_behind key octets) ≡ Ok octets
octets_read_behind key octets bytes =
    ap (λ (r : Result (List ℕ) Code). r >>= λ digits. digits_read (decode_of digits)) (read_behind key (hex_text octets)) ∙ frame_word_read octets bytes

-- ---- targets

not_es : (d : ℕ) → hex_digit_value 115 ≡ Some d → ⊥
not_es d h = cc h

second_is_none : (d : ℕ) → d < 16 → slice_index lower_digits d ≢ 115
second_is_none d h e = not_es d (subst (λ c. hex_digit_value c ≡ Some d) e (IsDigits-lower_digits d h))

not_a_group : (first : ℕ) (octets : List ℕ) → IsBytes octets → bytes_eq (hex_text octets) (first ∷ 115 ∷ []) ≡ false
unfolding encode_with
not_a_group first [] h = refl
not_a_group first (octet ∷ octets) h =
    let small : octet < 256 = h 0 in
    rw (ne_eqb (slice_index lower_digits (octet % 16)) 115 (second_is_none (octet % 16) (omega arith)))
    (and_right (slice_index lower_digits (octet / 16) == first) false refl)

pub target_is_word : (to : Target) → IsTarget to → IsWord (journal.target_text to)
target_is_word (System snpa) is = address_is_word snpa is
target_is_word EndSystems is = spelled (codes "es") refl
target_is_word Routers is = spelled (codes "is") refl

pub target_word_read : ReadsBack → (to : Target) → IsTarget to → target_word (journal.target_text to) ≡ Ok to
target_word_read law (System snpa) is =
    rw (not_a_group 101 snpa is.bytes, not_a_group 105 snpa is.bytes)
    (ap (λ (r : Result (List ℕ) Code). r >>= λ octets. Ok (System octets)) (address_word_read law snpa is))
target_word_read law EndSystems is = refl
target_word_read law Routers is = refl

-- ---- names

name_character : (c : ℕ) → is_letter_or_digit c ≡ true → 32 < c
name_character c h =
    elim (or_cases (is_letter c) (is_digit c) h) [
      | inl letter ↦ let p = and_parts (nat_le 97 c) (nat_le c 122) letter in let low = leb-true 97 c p.0 in omega arith
      | inr digit ↦ let low = (digit_within c digit).0 in omega arith
    ]

name_plain : (name : List ℕ) → list_all is_letter_or_digit name ≡ true → AllByRecursion IsPlain name
name_plain [] h = tt
name_plain (c ∷ cs) h =
    let p = and_parts (is_letter_or_digit c) (list_all is_letter_or_digit cs) h in
    (name_character c p.0, name_plain cs p.1)

pub name_is_word : (name : List ℕ) → is_name name ≡ true → IsWord name
name_is_word [] h = absurd (true≢false (sym h))
name_is_word (c ∷ cs) h =
    let p = and_parts (is_letter c && list_all is_letter_or_digit (c ∷ cs)) (nat_le (length (c ∷ cs)) 16) h in
    let q = and_parts (is_letter c) (list_all is_letter_or_digit (c ∷ cs)) p.0 in
    record { some = omega arith; plain = name_plain (c ∷ cs) q.1 }

other_bytes : (xs ys : List ℕ) → xs ≢ ys → bytes_eq xs ys ≡ false
other_bytes xs ys n =
    elim (cases_Bool (bytes_eq xs ys)) [
      | inl t ↦ absurd (n ((bytes_decides xs ys).0 t))
      | inr f ↦ f
    ]

-- a name among distinct ones stands first at its place
pub position_of_name : (names : List (List ℕ)) (name : List ℕ) (place : ℕ) → AreDistinct names → slice_get names place ≡ Some name
    → position (λ other. bytes_eq other name) names ≡ Some place
position_of_name names name place distinct there =
    let within = slice_get_within names place name there in
    let here : get_or names place [] ≡ name = get_or_from_slice_get names place name [] there in
    let first : position_or_len (λ other. bytes_eq other name) names ≡ place =
    position_or_len_is (λ other. bytes_eq other name) names place [] (omega arith)
    (λ k before. other_bytes (get_or names k []) name (λ same. distinct k place [] before within (same ∙ sym here)))
    (λ _. rw here (same-itself name)) in
    rw (first, lt-ltb place (length names) within) refl

pub declared_word_read : (names : List (List ℕ)) (name : List ℕ) (place : ℕ) → is_name name ≡ true → AreDistinct names → slice_get names place ≡ Some name
    → declared_word names name ≡ Ok place
declared_word_read names name place is distinct there =
    ap (λ (b : Bool). wanted b bad.Syntax >>= λ _. found (position (λ other. bytes_eq other name) names) bad.UnknownName) is
    ∙ ap (λ (o : Option ℕ). found o bad.UnknownName) (position_of_name names name place distinct there)
