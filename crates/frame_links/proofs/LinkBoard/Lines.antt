-- Digits and the octets that they spell, and what is laid of them in a buffer.
use Rattle.std.proofs.Common.{◌≡◌, ◌∙◌, ℕ, zero, suc, ◌+◌, ◌*◌, ◌/◌, ◌%◌, ◌<◌, ◌≤◌, min, true, false, List, [], ◌∷◌, ◌++◌, length, take, drop, None, Some, Result, Ok, Err, is_ok, refl, sym, ap, arith, inl, inr}
use Rattle.std.specs.List.{list_all}
use Rattle.std.proofs.Math.Seq.{take-append_seam}
use Rattle.std.proofs.lemmas.Bool.{cases_lt, false_from_ne_true}
use Rattle.std.proofs.lemmas.List.{length-take-le, take_all}
use Rattle.std.proofs.lemmas.List.Sums.{AllPass-from_list_all, list_all-from_AllPass}
use Rattle.hex.specs.Hex.{◌>>=◌, decode_of, decode_pairs, decode_sized, is_hex_digit, pair_value}
use Rattle.hex.specs.declared.error.FromHexError.{FromHexError}
use Rattle.hex.proofs.Pairs.{decode_sized-pairs}
use Rattle.hex.proofs.HexLemmas.{decode_of-even, decode_of-odd, decode_of-ok, decode_pairs-digits}
use Rattle.frame_links.specs.LinkBoard.Recording.{frame_on, frame_spelled}

-- the front of the digits spells the front of the octets
pub decode_pairs-take : (n i : ℕ) (s octets : List ℕ) → decode_pairs i s ≡ Ok octets → 2 * n ≤ length s
    → decode_pairs i (take (2 * n) s) ≡ Ok (take n octets)
unfolding decode_pairs
decode_pairs-take zero i s octets e h = refl
decode_pairs-take (suc n) i [] octets e h = absurd (omega arith)
decode_pairs-take (suc n) i (a ∷ []) octets e h = absurd (omega arith)
decode_pairs-take (suc n) i (a ∷ b ∷ rest) octets e h =
    let next : 2 * suc n ≡ suc (suc (2 * n)) = omega arith in
    rw next (by (λ vs d. decode_pairs-take n (i + 2) rest vs d (omega arith)) (pair_value a b i) (decode_pairs (i + 2) rest) refl e)
  where
    by : ((vs : List ℕ) → decode_pairs (i + 2) rest ≡ Ok vs → decode_pairs (i + 2) (take (2 * n) rest) ≡ Ok (take n vs))
        → (p : Result ℕ FromHexError) (d : Result (List ℕ) FromHexError) → decode_pairs (i + 2) rest ≡ d
        → (p >>= λ v. d >>= λ vs. Ok (v ∷ vs)) ≡ Ok octets
        → (p >>= λ v. decode_pairs (i + 2) (take (2 * n) rest) >>= λ vs. Ok (v ∷ vs)) ≡ Ok (take (suc n) octets)
    by behind (Err x) d de f = absurd (cc)
    by behind (Ok v) (Err x) de f = absurd (cc)
    by behind (Ok v) (Ok vs) de f =
        let is : v ∷ vs ≡ octets = cc in
        rw (← is, behind vs de) refl

pub decode_front : (s octets : List ℕ) (n : ℕ) → decode_of s ≡ Ok octets → 2 * n ≤ length s
    → decode_sized (take (2 * n) s) n ≡ Ok (take n octets)
decode_front s octets n e h =
    let twice = (decode_of-ok s octets e).2 in
    let pairs : decode_pairs 0 s ≡ Ok octets = sym (decode_of-even s (omega (arith, twice))) ∙ e in
    let long = length-take-le (2 * n) s h in
    decode_sized-pairs (take (2 * n) s) n (omega (arith, long)) (omega (arith, long)) ∙ decode_pairs-take n 0 s octets pairs h

-- the octets of a line of digits
pub octets_of_line : (line : List ℕ) → is_ok (decode_of line) ≡ true → (octets : List ℕ) × (decode_of line ≡ Ok octets)
octets_of_line line = by (decode_of line)
  where
    by : (r : Result (List ℕ) FromHexError) → is_ok r ≡ true → (octets : List ℕ) × (r ≡ Ok octets)
    by (Ok octets) h = (octets, refl)
    by (Err x) h = absurd (cc)

-- an even number of digits spells octets
pub spelled_by_all : (line : List ℕ) → length line % 2 ≡ 0 → list_all is_hex_digit line ≡ is_ok (decode_of line)
spelled_by_all line even = by (decode_of line) refl
  where
    by : (r : Result (List ℕ) FromHexError) → decode_of line ≡ r → list_all is_hex_digit line ≡ is_ok r
    by (Ok octets) e = list_all-from_AllPass is_hex_digit line (decode_of-ok line octets e).1
    by (Err x) e = false_from_ne_true (list_all is_hex_digit line) (λ all.
        let spelled = decode_pairs-digits 0 line even (AllPass-from_list_all is_hex_digit line all) in
        let both : Err x ≡ Ok spelled.0 = sym e ∙ (decode_of-even line even ∙ spelled.1) in
        absurd (cc))

pub spelled_odd : (line : List ℕ) → length line % 2 ≡ 1 → is_ok (decode_of line) ≡ false
spelled_odd line odd = rw (decode_of-odd line odd) refl

-- what a line's frame is, where so many octets of it are laid at the front of a buffer
laid_of : (line octets buf : List ℕ) (len : ℕ) → decode_of line ≡ Ok octets → length line ≡ 2 * length octets → 0 < length line
    → len ≡ min (length line / 2) 70000
    → frame_on line ≡ Some (record { from = 0 ∷ []; to_group = false; octets = take len (take len octets ++ drop len buf) })
unfolding frame_on
laid_of line [] buf len e twice some is = absurd (omega (arith, twice))
laid_of line (octet ∷ octets) buf len e twice some is = rw (e, front) refl
  where
    front : take len (take len (octet ∷ octets) ++ drop len buf) ≡ take 70000 (octet ∷ octets)
    front =
        let xs : List ℕ = octet ∷ octets in
        let long = length-take-le len xs (omega (arith, twice, is)) in
        let seam : take len (take len xs ++ drop len buf) ≡ take len xs =
        ap (λ n. take n (take len xs ++ drop len buf)) (sym long) ∙ take-append_seam (take len xs) (drop len buf) in
        seam ∙ elim (cases_lt (length xs) 70000) [
          | inl few ↦ take_all len xs (omega (arith, twice, is)) ∙ sym (take_all 70000 xs (omega arith))
          | inr many ↦ let full : len ≡ 70000 = omega (arith, twice, is) in ap (λ n. take n xs) full
        ]

-- what decoding the front of a line gives, in as much room as it has octets
pub decoded : (line front : List ℕ) (len room : ℕ) (h : is_ok (decode_of line) ≡ true) → front ≡ take (2 * len) line → room ≡ len
    → 2 * len ≤ length line → decode_sized front room ≡ Ok (take len (octets_of_line line h).0)
decoded line front len room h f r few = rw (f, r) (decode_front line (octets_of_line line h).0 len (octets_of_line line h).1 few)

pub laid : (line out buf : List ℕ) (len : ℕ) (h : is_ok (decode_of line) ≡ true) → out ≡ take len (octets_of_line line h).0
    → 0 < length line → len ≡ min (length line / 2) 70000
    → frame_on line ≡ Some (record { from = 0 ∷ []; to_group = false; octets = take len (out ++ drop len buf) })
laid line out buf len h o some is =
    let read = octets_of_line line h in
    rw o (laid_of line read.0 buf len read.1 (decode_of-ok line read.0 read.1).2 some is)

-- lines that are no capture lines
pub no_digits : (line : List ℕ) → length line ≡ 0 → frame_on line ≡ None
unfolding frame_on decode_pairs
no_digits [] h = refl
no_digits (c ∷ cs) h = absurd (omega arith)

pub not_spelled : (line : List ℕ) → is_ok (decode_of line) ≡ false → frame_on line ≡ None
unfolding frame_on
not_spelled line = by (decode_of line)
  where
    by : (r : Result (List ℕ) FromHexError) → is_ok r ≡ false → frame_spelled r ≡ None
    by (Ok octets) h = absurd (cc)
    by (Err x) h = refl
