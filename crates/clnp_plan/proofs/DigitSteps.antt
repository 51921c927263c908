-- Digits looked up in vectors, and blocks of them written one behind the other.
use Rattle.std.proofs.Common.{◌≡◌, ◌∙◌, ℕ, ◌+◌, ◌-◌, ◌*◌, ◌/◌, ◌%◌, ◌^◌, ◌<◌, ◌≤◌, List, [], ◌∷◌, ◌++◌, map, length, take, drop, get_or, replicate, bit_and, refl, sym, ap, arith, w8, Fits}
use borrow.Rule.Slice.PartMut.{put_mid}
use Rattle.std.proofs.lemmas.List.{append_assoc, append-nil, drop_all, length-drop, take_all, get_or-map, length-map, ext_get_or}
use Rattle.std.proofs.lemmas.Nat.{and_le_r, and_mask}
use Rattle.std.proofs.lemmas.Simd.{Each1-all, Each1-weaker, Each1-zip2, Each1-get_or, Each2-splat, below_from_Fits, length-zip2, zip2_splat, swz_l, SwzOk, SwzOk-from_below, length-swz_l, get_or-swz_l_below, chunk-drop, length-chunk, take_more_put_chunk}
use Rattle.std.specs.Simd.Lanes.{zip2, Each1, pick_l, chunk, put_chunk}
use Rattle.hex.specs.Hex.{encode_with, lower_digits}
use Rattle.hex.proofs.HexLemmas.{length-encode_with}

abbrev pub IsBlock : List ℕ → Type 0
IsBlock v = (length v ≡ 16) × Each1 (Fits w8) v

abbrev pub down : ℕ → ℕ → ℕ
down a b = a / 2 ^ b

-- a look-up asks that each place is within the block
pub high_ok : (v : List ℕ) → IsBlock v → SwzOk w8 16 16 0 (zip2 down v (replicate 16 4))
high_ok v fits =
    let small = Each1-weaker (λ a. a < 256) (λ a. a / 16 < 16) (λ a h. omega arith) v (below_from_Fits w8 v fits.1) in
    SwzOk-from_below w8 16 1 16 0 (zip2 down v (replicate 16 4)) refl (omega (arith, length-zip2 down v (replicate 16 4) fits.0))
    (Each1-zip2 down (λ j. j < 16) v (replicate 16 4) (Each2-splat (λ a b. down a b < 16) v 16 4 small))

pub low_ok : (v : List ℕ) → IsBlock v → SwzOk w8 16 16 0 (zip2 bit_and v (replicate 16 15))
low_ok v fits =
    let small = Each1-all (λ a. bit_and a 15 < 16) (λ a. omega (arith, and_le_r a 15)) v in
    SwzOk-from_below w8 16 1 16 0 (zip2 bit_and v (replicate 16 15)) refl (omega (arith, length-zip2 bit_and v (replicate 16 15) fits.0))
    (Each1-zip2 bit_and (λ j. j < 16) v (replicate 16 15) (Each2-splat (λ a b. bit_and a b < 16) v 16 15 small))

-- sixteen digits, looked up at places below sixteen
looked_up : (t : List ℕ) (g : ℕ → ℕ) (v js : List ℕ) → IsBlock v → js ≡ map g v → ((x : ℕ) → x < 256 → g x < 16)
    → swz_l w8 16 t 0 js ≡ map (λ x. get_or t (g x) 0) v
looked_up t g v js fits e small =
    let long : length js ≡ 16 = ap length e ∙ length-map v g ∙ fits.0 in
    ext_get_or 0 _ _ (length-swz_l w8 16 t 0 js ∙ long ∙ sym (length-map v (λ x. get_or t (g x) 0) ∙ fits.0)) (λ i h.
    let lt : i < 16 = omega (arith, length-swz_l w8 16 t 0 js) in
    let within : i < length v = omega (arith, fits.0) in
    let is : get_or js i 0 ≡ g (get_or v i 0) = ap (λ l. get_or l i 0) e ∙ get_or-map g v i 0 0 within in
    let octet : get_or v i 0 < 256 = Each1-get_or (λ x. x < 256) v i 0 within (below_from_Fits w8 v fits.1) in
    let below : get_or js i 0 < 16 = omega (arith, small (get_or v i 0) octet) in
    let place : 16 * ((0 + i) / 16) + get_or js i 0 ≡ g (get_or v i 0) = omega arith in
    get_or-swz_l_below w8 16 t 0 js i (omega arith) below
    ∙ ap (λ k. get_or t k 0) place ∙ sym (get_or-map (λ x. get_or t (g x) 0) v i 0 0 within))

pub high_are : (t v : List ℕ) → IsBlock v → swz_l w8 16 t 0 (zip2 down v (replicate 16 4)) ≡ map (λ x. get_or t (x / 16) 0) v
high_are t v fits = looked_up t (λ x. x / 16) v _ fits (zip2_splat down v 16 4 fits.0) (λ x h. omega arith)

pub low_are : (t v : List ℕ) → IsBlock v → swz_l w8 16 t 0 (zip2 bit_and v (replicate 16 15)) ≡ map (λ x. get_or t (x % 16) 0) v
low_are t v fits =
    looked_up t (λ x. bit_and x 15) v _ fits (zip2_splat bit_and v 16 15 fits.0) (λ x h. omega (arith, and_le_r x 15))
    ∙ (λ i. map (λ x. get_or t (and_mask x 4 i) 0) v)

-- the first digits and the second ones, in turn
pub pairs_are : (t v : List ℕ) → length v ≡ 16
    → pick_l 0 (map (λ x. get_or t (x / 16) 0) v ++ map (λ x. get_or t (x % 16) 0) v)
    (0 ∷ 16 ∷ 1 ∷ 17 ∷ 2 ∷ 18 ∷ 3 ∷ 19 ∷ 4 ∷ 20 ∷ 5 ∷ 21 ∷ 6 ∷ 22 ∷ 7 ∷ 23 ∷ 8 ∷ 24 ∷ 9 ∷ 25 ∷ 10 ∷ 26 ∷ 11 ∷ 27 ∷ 12 ∷ 28 ∷ 13 ∷ 29 ∷ 14 ∷ 30 ∷ 15 ∷ 31 ∷ []) ≡ encode_with t v
unfolding encode_with
pairs_are t [] e = absurd (omega arith)
pairs_are t (o0 ∷ []) e = absurd (omega arith)
pairs_are t (o0 ∷ o1 ∷ []) e = absurd (omega arith)
pairs_are t (o0 ∷ o1 ∷ o2 ∷ []) e = absurd (omega arith)
pairs_are t (o0 ∷ o1 ∷ o2 ∷ o3 ∷ []) e = absurd (omega arith)
pairs_are t (o0 ∷ o1 ∷ o2 ∷ o3 ∷ o4 ∷ []) e = absurd (omega arith)
pairs_are t (o0 ∷ o1 ∷ o2 ∷ o3 ∷ o4 ∷ o5 ∷ []) e = absurd (omega arith)
pairs_are t (o0 ∷ o1 ∷ o2 ∷ o3 ∷ o4 ∷ o5 ∷ o6 ∷ []) e = absurd (omega arith)
pairs_are t (o0 ∷ o1 ∷ o2 ∷ o3 ∷ o4 ∷ o5 ∷ o6 ∷ o7 ∷ []) e = absurd (omega arith)
pairs_are t (o0 ∷ o1 ∷ o2 ∷ o3 ∷ o4 ∷ o5 ∷ o6 ∷ o7 ∷ o8 ∷ []) e = absurd (omega arith)
pairs_are t (o0 ∷ o1 ∷ o2 ∷ o3 ∷ o4 ∷ o5 ∷ o6 ∷ o7 ∷ o8 ∷ o9 ∷ []) e = absurd (omega arith)
pairs_are t (o0 ∷ o1 ∷ o2 ∷ o3 ∷ o4 ∷ o5 ∷ o6 ∷ o7 ∷ o8 ∷ o9 ∷ o10 ∷ []) e = absurd (omega arith)
pairs_are t (o0 ∷ o1 ∷ o2 ∷ o3 ∷ o4 ∷ o5 ∷ o6 ∷ o7 ∷ o8 ∷ o9 ∷ o10 ∷ o11 ∷ []) e = absurd (omega arith)
pairs_are t (o0 ∷ o1 ∷ o2 ∷ o3 ∷ o4 ∷ o5 ∷ o6 ∷ o7 ∷ o8 ∷ o9 ∷ o10 ∷ o11 ∷ o12 ∷ []) e = absurd (omega arith)
pairs_are t (o0 ∷ o1 ∷ o2 ∷ o3 ∷ o4 ∷ o5 ∷ o6 ∷ o7 ∷ o8 ∷ o9 ∷ o10 ∷ o11 ∷ o12 ∷ o13 ∷ []) e = absurd (omega arith)
pairs_are t (o0 ∷ o1 ∷ o2 ∷ o3 ∷ o4 ∷ o5 ∷ o6 ∷ o7 ∷ o8 ∷ o9 ∷ o10 ∷ o11 ∷ o12 ∷ o13 ∷ o14 ∷ []) e = absurd (omega arith)
pairs_are t (o0 ∷ o1 ∷ o2 ∷ o3 ∷ o4 ∷ o5 ∷ o6 ∷ o7 ∷ o8 ∷ o9 ∷ o10 ∷ o11 ∷ o12 ∷ o13 ∷ o14 ∷ o15 ∷ []) e = refl
pairs_are t (o0 ∷ o1 ∷ o2 ∷ o3 ∷ o4 ∷ o5 ∷ o6 ∷ o7 ∷ o8 ∷ o9 ∷ o10 ∷ o11 ∷ o12 ∷ o13 ∷ o14 ∷ o15 ∷ o16 ∷ others) e = absurd (omega arith)

-- the digits of octets and of others
encode-append : (t xs ys : List ℕ) → encode_with t (xs ++ ys) ≡ encode_with t xs ++ encode_with t ys
unfolding encode_with
encode-append t [] ys = refl
encode-append t (x ∷ xs) ys = ap (λ others. get_or t (x / 16) 0 ∷ get_or t (x % 16) 0 ∷ others) (encode-append t xs ys)

-- one block more is written
pub block_step : (t octets place pairs : List ℕ) (block : ℕ) → block < length octets / 16 → length place ≡ 2 * length octets
    → pairs ≡ encode_with t (chunk (16 * block) 16 octets)
    → take (32 * block) place ++ encode_with t (drop (16 * block) octets) ≡ encode_with t octets
    → take (32 * (block + 1)) (put_chunk (32 * block) place pairs) ++ encode_with t (drop (16 * (block + 1)) octets) ≡ encode_with t octets
block_step t octets place pairs block within long is so_far =
    let here : List ℕ = chunk (16 * block) 16 octets in
    let wide : length pairs ≡ 32 = omega (arith, ap length is, length-encode_with t here, length-chunk (16 * block) 16 octets (omega arith)) in
    let front = take_more_put_chunk (32 * block) place pairs (32 * (block + 1)) (omega arith) (omega arith) in
    let next : 16 * block + 16 ≡ 16 * (block + 1) = omega arith in
    let left : encode_with t (drop (16 * block) octets) ≡ encode_with t here ++ encode_with t (drop (16 * (block + 1)) octets) =
    ap (encode_with t) (chunk-drop (16 * block) 16 octets ∙ ap (λ k. here ++ drop k octets) next)
    ∙ encode-append t here (drop (16 * (block + 1)) octets) in
    ap (λ l. l ++ encode_with t (drop (16 * (block + 1)) octets)) (front ∙ ap (λ p. take (32 * block) place ++ p) is)
    ∙ append_assoc (take (32 * block) place) (encode_with t here) (encode_with t (drop (16 * (block + 1)) octets))
    ∙ ap (λ l. take (32 * block) place ++ l) (sym left) ∙ so_far

-- what is left behind the blocks is written
pub all_written : (t octets place rest : List ℕ) (blocks : ℕ) → length octets / 16 ≤ blocks → blocks ≤ length octets / 16
    → length place ≡ 2 * length octets
    → rest ≡ encode_with t (take (length octets - 16 * (length octets / 16)) (drop (16 * (length octets / 16)) octets))
    → take (32 * blocks) place ++ encode_with t (drop (16 * blocks) octets) ≡ encode_with t octets
    → put_mid (32 * (length octets / 16)) (length place - 32 * (length octets / 16)) place rest ≡ encode_with t octets
all_written t octets place rest blocks most least long is so_far =
    let whole : ℕ = length octets / 16 in
    let same : blocks ≡ whole = omega arith in
    let behind : drop (length place - 32 * whole) (drop (32 * whole) place) ≡ [] =
    drop_all (length place - 32 * whole) (drop (32 * whole) place) (omega (arith, length-drop (32 * whole) place)) in
    let all : take (length octets - 16 * whole) (drop (16 * whole) octets) ≡ drop (16 * whole) octets =
    take_all (length octets - 16 * whole) (drop (16 * whole) octets) (omega (arith, length-drop (16 * whole) octets)) in
    ap (λ l. take (32 * whole) place ++ (rest ++ l)) behind
    ∙ ap (λ l. take (32 * whole) place ++ l) (append-nil rest ∙ is ∙ ap (encode_with t) all)
    ∙ ap (λ k. take (32 * k) place ++ encode_with t (drop (16 * k) octets)) (sym same) ∙ so_far

-- the sixteen digits, as they are told for these octets
pub sixteen_told : encode_with lower_digits (0x01 ∷ 0x23 ∷ 0x45 ∷ 0x67 ∷ 0x89 ∷ 0xab ∷ 0xcd ∷ 0xef ∷ []) ≡ lower_digits
unfolding encode_with
sixteen_told = refl
