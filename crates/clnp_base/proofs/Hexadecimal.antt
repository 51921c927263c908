-- Pairs of hexadecimal digits, read by what each is worth, and what one digit is worth.
use Rattle.std.proofs.Common.{◌≡◌, ◌∙◌, ℕ, ◌+◌, ◌*◌, ◌<◌, ◌≤◌, inl, inr, List, [], ◌∷◌, length, set, length-set, get_or, get_or-set_other, get_or-set_same, Option, Some, None, unwrap_or, Result, Ok, Err, refl, sym, ap, arith, replicate}
use Rattle.std.specs.Prelude.{MatchResult}
use Rattle.std.proofs.lemmas.List.{get_or-replicate, length-replicate}
use Rattle.std.proofs.lemmas.Bool.{cases_eq, cases_lt}
use Rattle.hex.specs.Hex.{decode_pairs, decode_sized, hex_digit_value, pair_value, value_at, digit_or_error}
use Rattle.hex.specs.declared.error.FromHexError.{FromHexError}
use Rattle.hex.specs.declared.error.FromHexError.TheVariants.{InvalidHexCharacter}
use Rattle.hex.proofs.Pairs.{decode_pairs-err_pair, decode_pairs-ok_pair, decode_sized-pairs}
use Rattle.clnp_base.specs.Hexadecimal.{worth}

is_digit : (o : Option ℕ) (v : ℕ) → v ≡ unwrap_or o 255 → v ≤ 15 → o ≡ Some v
is_digit (Some w) v e le = ap Some (sym e)
is_digit None v e le = absurd (omega arith)

value_small : (c v : ℕ) → hex_digit_value c ≡ Some v → v < 16
value_small c v h = grind (arith)

no_digit : (o : Option ℕ) (v : ℕ) → ((w : ℕ) → o ≡ Some w → w < 16) → v ≡ unwrap_or o 255 → 15 < v → o ≡ None
no_digit (Some w) v small e gt = let lt : w < 16 = small w refl in absurd (omega arith)
no_digit None v small e gt = refl

-- a pair of digits whose values the table gives
pub pair-digits : (a b i high low : ℕ) → high ≡ unwrap_or (hex_digit_value a) 255 → low ≡ unwrap_or (hex_digit_value b) 255
    → high ≤ 15 → low ≤ 15 → pair_value a b i ≡ Ok (high * 16 + low)
pair-digits a b i high low ha lb hle lle =
    let da = is_digit (hex_digit_value a) high ha hle in
    let db = is_digit (hex_digit_value b) low lb lle in
    let va : value_at a i ≡ Ok high = ap (digit_or_error a i) da in
    let vb : value_at b (i + 1) ≡ Ok low = ap (digit_or_error b (i + 1)) db in
    rw (va, vb) refl

-- a pair whose first character is no digit
pub pair-bad_high : (a b i high : ℕ) → high ≡ unwrap_or (hex_digit_value a) 255 → 15 < high
    → pair_value a b i ≡ Err (InvalidHexCharacter a i)
pair-bad_high a b i high ha gt =
    let va : value_at a i ≡ Err (InvalidHexCharacter a i) = ap (digit_or_error a i) (no_digit (hex_digit_value a) high (value_small a) ha gt) in
    rw va refl

-- a pair whose second character alone is no digit
pub pair-bad_low : (a b i high low : ℕ) → high ≡ unwrap_or (hex_digit_value a) 255 → low ≡ unwrap_or (hex_digit_value b) 255
    → high ≤ 15 → 15 < low → pair_value a b i ≡ Err (InvalidHexCharacter b (i + 1))
pair-bad_low a b i high low ha lb hle gt =
    let va : value_at a i ≡ Ok high = ap (digit_or_error a i) (is_digit (hex_digit_value a) high ha hle) in
    let vb : value_at b (i + 1) ≡ Err (InvalidHexCharacter b (i + 1)) = ap (digit_or_error b (i + 1)) (no_digit (hex_digit_value b) low (value_small b) lb gt) in
    rw (va, vb) refl

-- ---- one digit, read behind a `0`

pub digit_decoded : (c v : ℕ) → hex_digit_value c ≡ Some v → decode_sized (48 ∷ c ∷ []) 1 ≡ Ok (v ∷ [])
unfolding decode_pairs
digit_decoded c v is =
    let low : value_at c (0 + 1) ≡ Ok v = ap (digit_or_error c (0 + 1)) is in
    let pair : pair_value 48 c 0 ≡ Ok (0 * 16 + v) = rw low refl in
    let same : 0 * 16 + v ≡ v = omega arith in
    decode_sized-pairs (48 ∷ c ∷ []) 1 refl refl
    ∙ decode_pairs-ok_pair 0 48 c (0 * 16 + v) [] pair
    ∙ ap (λ n. Ok (n ∷ [])) same

pub no_digit_decoded : (c : ℕ) → hex_digit_value c ≡ None → decode_sized (48 ∷ c ∷ []) 1 ≡ Err (InvalidHexCharacter c (0 + 1))
no_digit_decoded c is =
    let low : value_at c (0 + 1) ≡ Err (InvalidHexCharacter c (0 + 1)) = ap (digit_or_error c (0 + 1)) is in
    let pair : pair_value 48 c 0 ≡ Err (InvalidHexCharacter c (0 + 1)) = rw low refl in
    decode_sized-pairs (48 ∷ c ∷ []) 1 refl refl ∙ decode_pairs-err_pair 0 48 c (InvalidHexCharacter c (0 + 1)) [] pair

-- the octet is the digit's value, and there is none where the character is no digit, which is then worth so much
abbrev pub IsWorth : (otherwise c : ℕ) → Result (List ℕ) FromHexError → Type 0
IsWorth otherwise c read =
    MatchResult read (λ octet. octet ≡ unwrap_or (hex_digit_value c) otherwise ∷ []) (λ e. unwrap_or (hex_digit_value c) otherwise ≡ otherwise)

pub digit_read : (otherwise c : ℕ) (read : Result (List ℕ) FromHexError) → read ≡ decode_sized (48 ∷ c ∷ []) 1 → IsWorth otherwise c read
digit_read otherwise c read is = rw is (by_value (hex_digit_value c) refl)
  where
    by_value : (value : Option ℕ) → hex_digit_value c ≡ value → IsWorth otherwise c (decode_sized (48 ∷ c ∷ []) 1)
    by_value (Some v) some = rw (digit_decoded c v some) (ap (λ (o : Option ℕ). unwrap_or o otherwise ∷ []) (sym some))
    by_value None none = rw (no_digit_decoded c none) (ap (λ (o : Option ℕ). unwrap_or o otherwise) none)

-- ---- what was asked so far

-- under each character that was asked stands what it is worth, and the first of the text were asked
pub record Telling (values text : List ℕ) (count : ℕ) : Type 0 where
  pub long : length values ≡ 256
  pub each : (c : ℕ) → c < 256 → (get_or values c 0 ≡ 254 → ⊥) → get_or values c 0 ≡ worth c
  pub told : (i : ℕ) → i < count → get_or values (get_or text i 0) 0 ≡ worth (get_or text i 0)

pub telling_none : (text : List ℕ) → Telling (replicate 256 254) text 0
telling_none text = record {
  long = length-replicate {A = ℕ} 256 254;
  each = λ c below asked. absurd (asked (get_or-replicate {A = ℕ} 256 c 254 0 below));
  told = λ i below. absurd (omega arith);
}

pub telling_more : (values text : List ℕ) (count v : ℕ) → Telling values text count → get_or text count 0 < 256
    → v ≡ worth (get_or text count 0) → Telling (set values (get_or text count 0) v) text (count + 1)
telling_more values text count v so_far small is =
    let place : ℕ = get_or text count 0 in
    let long = so_far.long in
    let here : get_or (set values place v) place 0 ≡ worth place = get_or-set_same values place v 0 (omega arith) ∙ is in
    record {
      long = length-set values place v ∙ long;
      each = λ c below asked.
          elim (cases_eq c place) [
            | inl same ↦ ap (λ k. get_or (set values place v) k 0) same ∙ here ∙ sym (ap worth same)
            | inr other ↦
                let kept = get_or-set_other values place c v 0 other in
                kept ∙ so_far.each c below (λ e. asked (kept ∙ e))
          ];
      told = λ i below.
          elim (cases_eq (get_or text i 0) place) [
            | inl same ↦ ap (λ k. get_or (set values place v) k 0) same ∙ here ∙ sym (ap worth same)
            | inr other ↦
                let earlier : i < count = elim (cases_lt i count) [
                  | inl before ↦ before
                  | inr after ↦ absurd (let last : i ≡ count = omega arith in other (ap (λ k. get_or text k 0) last))
                ] in
                get_or-set_other values place (get_or text i 0) v 0 other ∙ so_far.told i earlier
          ];
    }
