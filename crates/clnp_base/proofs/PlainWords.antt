-- Words of a line: what stands in them, how a line is cut into them, and the words that numbers and octets are written as.
use Rattle.std.proofs.Common.{◌≡◌, ℕ, zero, suc, cond, ◌+◌, ◌-◌, ◌*◌, ◌/◌, ◌%◌, ◌^◌, ◌<◌, ◌==◌, nat_le, nat_lt, Bool, true, false, List, [], ◌∷◌, ◌++◌, length, slice_index, Some, refl, sym, ap, ◌∙◌, arith, append-nil}
use Rattle.std.specs.List.{AllByRecursion, list_all}
use Rattle.std.specs.Fmt.{decimal, digits, digits_onto, digit_glyph}
use Rattle.std.specs.Int.{IsInRange}
use Rattle.std.proofs.lemmas.Bool.{true≢false, and_parts, ne_eqb, leb-true, le-leb, lt-ltb, ltb-true}
use Rattle.std.proofs.lemmas.Fmt.{decimal_is_IsNumeral, digits_decimal, digits_value-decimal}
use Rattle.std.proofs.lemmas.Str.Parse.{IsDigitsTest, FoldsDigits, IsNumeralModel, numerals_by_fold}
use Rattle.hex.specs.Hex.{IsBytes, encode_lower, encode_with, lower_digits, hex_digit_value}
use Rattle.hex.proofs.HexLemmas.{IsDigits-lower_digits}
use Rattle.clnp_base.specs.Text.{words_of, onto_first, ends_word, is_digit, decimal_of}
use Rattle.clnp_base.proofs.Decimals.{value_after}
use Rattle.clnp_base.proofs.Lists.{AllByRecursion-append}
use Rattle.clnp_base.proofs.Reading.{IsWithinLine, words_of-next}

-- a character that may stand in a word
abbrev pub IsPlain : ℕ → Type 0
IsPlain c = 32 < c

pub record IsWord (word : List ℕ) : Type 0 where
  pub some : 0 < length word
  pub plain : AllByRecursion IsPlain word

-- the test of a word that is known
abbrev pub is_spelled : List ℕ → Bool
is_spelled [] = false
is_spelled (c ∷ cs) = list_all (λ d. nat_lt 32 d) (c ∷ cs)

plain_all : (cs : List ℕ) → list_all (λ d. nat_lt 32 d) cs ≡ true → AllByRecursion IsPlain cs
plain_all [] h = tt
plain_all (c ∷ cs) h =
    let p = and_parts (nat_lt 32 c) (list_all (λ d. nat_lt 32 d) cs) h in
    (ltb-true 32 c p.0, plain_all cs p.1)

-- a word that is known is one: `known (codes "clnp") refl`
pub known : (word : List ℕ) → is_spelled word ≡ true → IsWord word
known [] h = absurd (true≢false (sym h))
known (c ∷ cs) h = record { some = omega arith; plain = plain_all (c ∷ cs) h }

-- a key that is a word, and what follows it
pub keyed : (key rest : List ℕ) → is_spelled key ≡ true → AllByRecursion IsPlain rest → IsWord (key ++ rest)
keyed [] rest is plain = absurd (true≢false (sym is))
keyed (c ∷ cs) rest is plain =
    record { some = omega arith; plain = AllByRecursion-append IsPlain (c ∷ cs) rest (known (c ∷ cs) is).plain plain }

-- a word and what follows it, to the next space
word_cut : (c : ℕ) (cs rest : List ℕ) → IsPlain c → AllByRecursion IsPlain cs → ends_word rest ≡ true → words_of (c ∷ (cs ++ rest)) ≡ (c ∷ cs) ∷ words_of rest
word_cut c [] rest p h e = rw (ne_eqb c 32 (omega arith), e) refl
word_cut c (d ∷ ds) rest p h e =
    words_of-next c d (ds ++ rest) (ne_eqb c 32 (omega arith)) (ne_eqb d 32 (omega (arith, h.0)))
    ∙ ap (λ words. onto_first c words) (word_cut d ds rest h.0 h.1 e)

-- the first word, and what follows it
pub first_word : (word rest : List ℕ) → IsWord word → ends_word rest ≡ true → words_of (word ++ rest) ≡ word ∷ words_of rest
first_word [] rest is e = absurd (omega (arith, is.some))
first_word (c ∷ cs) rest is e = word_cut c cs rest is.plain.0 is.plain.1 e

-- the last word
pub last_word : (word : List ℕ) → IsWord word → words_of word ≡ word ∷ []
last_word word is = ap (λ (t : List ℕ). words_of t) (sym (append-nil word)) ∙ first_word word [] is refl

-- ---- characters that end no line

pub within_plain : (word : List ℕ) → AllByRecursion IsPlain word → AllByRecursion IsWithinLine word
within_plain [] are = tt
within_plain (c ∷ cs) are =
    ((ne_eqb c 10 (omega (arith, are.0)), ne_eqb c 13 (omega (arith, are.0))), within_plain cs are.1)

pub within_both : (a b : List ℕ) → AllByRecursion IsWithinLine a → AllByRecursion IsWithinLine b → AllByRecursion IsWithinLine (a ++ b)
within_both a b p q = AllByRecursion-append IsWithinLine a b p q

-- ---- hexadecimal digits

hex_digit_plain : (c v : ℕ) → hex_digit_value c ≡ Some v → 32 < c
hex_digit_plain c v h = grind (arith)

pub digit_plain : (d : ℕ) → d < 16 → 32 < slice_index lower_digits d
digit_plain d h = hex_digit_plain (slice_index lower_digits d) d (IsDigits-lower_digits d h)

pub hex_plain : (octets : List ℕ) → IsBytes octets → AllByRecursion IsPlain (encode_lower octets)
unfolding encode_with
hex_plain [] h = tt
hex_plain (octet ∷ octets) h =
    let small : octet < 256 = h 0 in
    (digit_plain (octet / 16) (omega arith), (digit_plain (octet % 16) (omega arith), hex_plain octets (λ i. h (suc i))))

-- ---- decimal digits

-- a character behind `/` and so no `#`
abbrev pub IsHigh : ℕ → Type 0
IsHigh c = 47 < c

glyph_high : (d : ℕ) → d < 10 → IsHigh (digit_glyph false d)
glyph_high d h = rw (lt-ltb d 10 h) (omega arith)

digits_high : (k n : ℕ) (acc : List ℕ) → AllByRecursion IsHigh acc → AllByRecursion IsHigh (digits_onto k 10 false n acc)
digits_high zero n acc h = h
digits_high (suc k) n acc h =
    let g = digit_glyph false (n % 10) in
    let more : AllByRecursion IsHigh (g ∷ acc) = (glyph_high (n % 10) (omega arith), h) in
    elim (n / 10 == 0) as (λ b. AllByRecursion IsHigh (cond b (g ∷ acc) (digits_onto k 10 false (n / 10) (g ∷ acc))))
    [ true ↦ more | false ↦ digits_high k (n / 10) (g ∷ acc) more ]

pub decimal_high : (n : ℕ) → AllByRecursion IsHigh (decimal n)
unfolding digits
decimal_high n = digits_high 64 n [] tt

high_plain : (word : List ℕ) → AllByRecursion IsHigh word → AllByRecursion IsPlain word
high_plain [] are = tt
high_plain (c ∷ cs) are = (omega (arith, are.0), high_plain cs are.1)

pub decimal_plain : (n : ℕ) → AllByRecursion IsPlain (decimal n)
decimal_plain n = high_plain (decimal n) (decimal_high n)

abbrev are_digits : List ℕ → Type 0
are_digits cs = list_all is_digit cs ≡ true

digit_within : (c : ℕ) → is_digit c ≡ true → IsInRange 48 57 c
digit_within c h = let p = and_parts (nat_le 48 c) (nat_le c 57) h in (leb-true 48 c p.0, leb-true c 57 p.1)

digit_is : (c : ℕ) → IsInRange 48 57 c → is_digit c ≡ true
digit_is c h = rw (le-leb 48 c h.0, le-leb c 57 h.1) refl

tells_digits : IsDigitsTest are_digits
tells_digits = record {
  empty = refl;
  parts = λ c cs h. let p = and_parts (is_digit c) (list_all is_digit cs) h in (digit_within c p.0, p.1);
  more = λ c cs h k. rw (digit_is c h, k) refl;
}

folds_digits : FoldsDigits value_after
folds_digits = record {
  empty = λ n. refl;
  more = λ n c cs h. ap (λ (m : ℕ). value_after m cs) {x = 10 * n + (c - 48)} {y = n * 10 + (c - 48)} (omega arith);
}

own : IsNumeralModel are_digits (value_after 0)
own = numerals_by_fold are_digits tells_digits value_after folds_digits

decimal_of-digits : (word : List ℕ) (n : ℕ) → 0 < length word → list_all is_digit word ≡ true → value_after 0 word ≡ n → n < 2 ^ 64 → decimal_of word ≡ Some n
decimal_of-digits [] n h d v small = absurd (omega arith)
decimal_of-digits (c ∷ cs) n h d v small = rw (d, v, lt-ltb n (2 ^ 64) small) refl

-- a number in decimal digits is read as that number
pub decimal_read : (n : ℕ) → n < 2 ^ 64 → decimal_of (decimal n) ≡ Some n
decimal_read n h =
    decimal_of-digits (decimal n) n (decimal_is_IsNumeral n h).0.0 (digits_decimal own n h) (digits_value-decimal own n h) h

pub decimal_some : (n : ℕ) → n < 2 ^ 64 → 0 < length (decimal n)
decimal_some n h = (decimal_is_IsNumeral n h).0.0
