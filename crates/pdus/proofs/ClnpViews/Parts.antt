-- The octets of a part of a view, and of frames in two parts.
use Rattle.std.proofs.Common.{◌≡◌, ℕ, ◌+◌, ◌-◌, ◌≤◌, ◌++◌, List, [], ◌∷◌, suc, length, take, drop, arith, ap, sym, refl, ◌∙◌}
use Rattle.std.proofs.lemmas.List.{drop-append-le, drop-take, length-append, length-drop, length-take, length-take-le, take-append-le, take_all}
use Rattle.std.proofs.Math.Seq.{drop-drop, take-take}
use Rattle.pdus.specs.ClnpViews.Extent.{Extent, LiesWithin, part, seen}

pub seen_part : (from len : ℕ) (extent : Extent) → from + len ≤ extent.len
    → seen (part from len extent) ≡ take len (drop from (seen extent))
seen_part from len extent within =
    let whole : from + (extent.len - from) ≡ extent.len = omega arith in
    ap (λ xs. take len xs) (sym (drop-drop from extent.from extent.frame))
    ∙ sym (take-take len (extent.len - from) (drop from (drop extent.from extent.frame)) (omega arith))
    ∙ ap (λ xs. take len xs) (sym (drop-take from (extent.len - from) (drop extent.from extent.frame)))
    ∙ ap (λ k. take len (drop from (take k (drop extent.from extent.frame)))) whole

-- what lies behind the first of two lists
drop_front : (xs ys : List ℕ) → drop (length xs) (xs ++ ys) ≡ ys
drop_front [] ys = refl
drop_front (x ∷ xs) ys = drop_front xs ys

pub drop_behind : (xs ys : List ℕ) (n : ℕ) → length xs ≤ n → drop n (xs ++ ys) ≡ drop (n - length xs) ys
drop_behind xs ys n within =
    let whole : n ≡ length xs + (n - length xs) = omega arith in
    ap (λ k. drop k (xs ++ ys)) whole
    ∙ sym (drop-drop (n - length xs) (length xs) (xs ++ ys))
    ∙ ap (λ zs. drop (n - length xs) zs) (drop_front xs ys)

take_front : (xs ys : List ℕ) (m : ℕ) → take (length xs + m) (xs ++ ys) ≡ xs ++ take m ys
take_front [] ys m = let on : 0 + m ≡ m = omega arith in ap (λ k. take k ys) on
take_front (x ∷ xs) ys m =
    let on : length (x ∷ xs) + m ≡ suc (length xs + m) = omega arith in
    ap (λ k. take k (x ∷ xs ++ ys)) on ∙ ap (λ zs. x ∷ zs) (take_front xs ys m)

-- the octets of a part that lies behind the first of two parts
pub seen_behind : (front behind : List ℕ) (from len : ℕ) (extent : Extent) → front ++ behind ≡ extent.frame
    → from + len ≤ extent.len → length front ≤ extent.from + from
    → take len (drop (extent.from + from - length front) behind) ≡ take len (drop from (seen extent))
seen_behind front behind from len extent both within past =
    ap (λ xs. take len xs) (sym (drop_behind front behind (extent.from + from) past))
    ∙ ap (λ xs. take len (drop (extent.from + from) xs)) both
    ∙ seen_part from len extent within

-- the octets of a part that lies in the first of two parts
pub seen_before : (front behind : List ℕ) (from len : ℕ) (extent : Extent) → front ++ behind ≡ extent.frame
    → from + len ≤ extent.len → extent.from + from + len ≤ length front
    → take len (drop (extent.from + from) front) ≡ take len (drop from (seen extent))
seen_before front behind from len extent both within before =
    let place = extent.from + from in
    let long = length-drop place front in
    sym (take-append-le len (drop place front) behind (omega (arith, long, before)))
    ∙ ap (λ xs. take len xs) (sym (drop-append-le place front behind (omega (arith, before))))
    ∙ ap (λ xs. take len (drop place xs)) both
    ∙ seen_part from len extent within

-- the octets of a part that lies in both
pub seen_across : (front behind : List ℕ) (from len : ℕ) (extent : Extent) → front ++ behind ≡ extent.frame
    → from + len ≤ extent.len → extent.from + from ≤ length front → length front ≤ extent.from + from + len
    → drop (extent.from + from) front ++ take (len - (length front - (extent.from + from))) behind ≡ take len (drop from (seen extent))
seen_across front behind from len extent both within begins ends =
    let place = extent.from + from in
    let here : length (drop place front) ≡ length front - place = length-drop place front in
    let whole : length (drop place front) + (len - (length front - place)) ≡ len = omega (arith, here, begins, ends) in
    sym (take_front (drop place front) behind (len - (length front - place)))
    ∙ ap (λ k. take k (drop place front ++ behind)) whole
    ∙ ap (λ xs. take len xs) (sym (drop-append-le place front behind begins))
    ∙ ap (λ xs. take len (drop place xs)) both
    ∙ seen_part from len extent within

-- the first octets that are seen, where there are few
pub first_part : (extent : Extent) → extent.len ≤ 254 → take extent.len (seen extent) ≡ take 254 (seen extent)
first_part extent few =
    let long = length-take extent.len (drop extent.from extent.frame) in
    take-take extent.len extent.len (drop extent.from extent.frame) (omega arith)
    ∙ sym (take_all 254 (seen extent) (omega (arith, long, few)))

-- the octets of a part that lies in what a frame shares, behind its first part
pub seen_shared : (front octets : List ℕ) (at size from len : ℕ) (extent : Extent) → front ++ take size (drop at octets) ≡ extent.frame
    → at + size ≤ length octets → LiesWithin extent → from + len ≤ extent.len → length front ≤ extent.from + from
    → take len (drop (at + (extent.from + from - length front)) octets) ≡ take len (drop from (seen extent))
seen_shared front octets at size from len extent both lies whole within past =
    let behind : Extent = record { frame = octets; from = at; len = size } in
    let dropped = length-drop at octets in
    let taken = length-take-le size (drop at octets) (omega (arith, dropped, lies)) in
    let parts = length-append front (take size (drop at octets)) in
    seen_part (extent.from + from - length front) len behind (omega (arith, taken, parts, ap length both, whole, within, past))
    ∙ seen_behind front (take size (drop at octets)) from len extent both within past
