-- Runs that stand in order, where those with a place are found by a binary search.
use Rattle.std.proofs.Common.{◌≡◌, ℕ, zero, suc, ◌+◌, ◌-◌, ◌<◌, ◌≤◌, ◌&&◌, ◌||◌, max, min, nat_le, nat_lt, Bool, true, false, cond, List, [], ◌∷◌, ◌++◌, Option, None, Some, length, map, take, drop, get_or, inl, inr, refl, sym, ap, subst, ◌∙◌, arith}
use Rattle.std.specs.Prelude.{is_none, is_some, slice_get}
use Rattle.std.specs.List.{AllByRecursion, list_any, position_from}
use Rattle.std.specs.List.Sorted.{IsNonDecreasingBy}
use Rattle.std.proofs.lemmas.Bool.{and_from, and_left, and_parts, and_right, cond-false, cond-true, le-ltb, lt-leb, lt-ltb, ltb-false, ltb-true, or_cases, or_left, or_right}
use Rattle.std.proofs.lemmas.Option.{slice_get-get_or}
use Rattle.std.proofs.lemmas.List.{drop-drop, length-take, take-take}
use Rattle.pdus.proofs.ClnpBase.Found.{position_none}
use Rattle.pdus.proofs.ClnpBase.Lists.{AllByRecursion-both, AllByRecursion-get_or, AllByRecursion-implies}
use Rattle.system_tables.specs.declared.reassembly.runs.Run.{Run}
use Rattle.system_tables.specs.Reassembly.Runs.{AreInOrder, AreJoined, cut, is_across, is_gap, is_hole, marked}
use Rattle.system_tables.proofs.ReassemblyFacts.Filling.{cut-joined, none_behind}

-- ---- parts of a list

module _ {X : Type 0} (P : X → Type 0) where
  pub all_take : (xs : List X) (n : ℕ) → n ≤ length xs → ((k : ℕ) (d : X) → 0 ≤ k → k < n → P (get_or xs k d)) → AllByRecursion P (take n xs)
  all_take [] zero within h = tt
  all_take [] (suc n) within h = tt
  all_take (x ∷ xs) zero within h = tt
  all_take (x ∷ xs) (suc n) within h =
      (h zero x (omega arith) (omega arith), all_take xs n (omega (arith, within)) (λ k d low high. h (suc k) d (omega arith) (omega (arith, high))))

  pub all_drop : (xs : List X) (n : ℕ) → ((k : ℕ) (d : X) → n ≤ k → k < length xs → P (get_or xs k d)) → AllByRecursion P (drop n xs)
  all_drop [] zero h = tt
  all_drop [] (suc n) h = tt
  all_drop (x ∷ xs) zero h =
      (h zero x (omega arith) (omega arith), all_drop xs zero (λ k d low high. h (suc k) d (omega arith) (omega (arith, high))))
  all_drop (x ∷ xs) (suc n) h = all_drop xs n (λ k d low high. h (suc k) d (omega (arith, low)) (omega (arith, high)))

none_any : {X : Type 0} (p : X → Bool) (xs : List X) → AllByRecursion (λ x. p x ≡ false) xs → list_any p xs ≡ false
none_any p [] none = refl
none_any p (x ∷ xs) none = rw none.0 (none_any p xs none.1)

-- what passes a test is in a part, where nothing before and behind it does
part_any : {X : Type 0} (p : X → Bool) (xs : List X) (a k : ℕ) → AllByRecursion (λ x. p x ≡ false) (take a xs)
    → AllByRecursion (λ x. p x ≡ false) (drop k (drop a xs)) → list_any p (take k (drop a xs)) ≡ list_any p xs
part_any p [] zero zero before behind = refl
part_any p [] zero (suc k) before behind = refl
part_any p [] (suc a) zero before behind = refl
part_any p [] (suc a) (suc k) before behind = refl
part_any p (x ∷ xs) zero zero before behind = sym (none_any p (x ∷ xs) behind)
part_any p (x ∷ xs) zero (suc k) before behind = ap (λ b. p x || b) (part_any p xs zero k tt behind)
part_any p (x ∷ xs) (suc a) k before behind = rw before.0 (part_any p xs a k before.1 behind)

same_all : {X : Type 0} (f : X → X) (xs : List X) → AllByRecursion (λ x. f x ≡ x) xs → xs ≡ map f xs
same_all f [] same = refl
same_all f (x ∷ xs) same = ap (λ y. y ∷ xs) (sym same.0) ∙ ap (λ l. f x ∷ l) (same_all f xs same.1)

-- a part is mapped, where what is before and behind it stays the same
pub part_mapped : {X : Type 0} (f : X → X) (xs : List X) (a k : ℕ) → AllByRecursion (λ x. f x ≡ x) (take a xs)
    → AllByRecursion (λ x. f x ≡ x) (drop k (drop a xs)) → take a xs ++ (map f (take k (drop a xs)) ++ drop k (drop a xs)) ≡ map f xs
part_mapped f [] zero zero before behind = refl
part_mapped f [] zero (suc k) before behind = refl
part_mapped f [] (suc a) zero before behind = refl
part_mapped f [] (suc a) (suc k) before behind = refl
part_mapped f (x ∷ xs) zero zero before behind = same_all f (x ∷ xs) behind
part_mapped f (x ∷ xs) zero (suc k) before behind = ap (λ l. f x ∷ l) (part_mapped f xs zero k tt behind)
part_mapped f (x ∷ xs) (suc a) k before behind =
    ap (λ y. y ∷ (take a xs ++ (map f (take k (drop a xs)) ++ drop k (drop a xs)))) (sym before.0)
    ∙ ap (λ l. f x ∷ l) (part_mapped f xs a k before.1 behind)

-- ---- runs in order

-- behind a place, and with a place of their own
abbrev StandsBehind : ℕ → Run → Type 0
StandsBehind place run = (place ≤ run.from) × (run.from < run.to)

all_behind : (place low high : ℕ) (runs : List Run) → AreJoined low high runs → place ≤ low → AllByRecursion (StandsBehind place) runs
all_behind place low high [] joined behind = tt
all_behind place low high (run ∷ others) joined behind = (
  (omega (arith, joined.0, behind), joined.1.0),
  all_behind place run.to high others joined.1.1 (omega (arith, joined.0, joined.1.0, behind)),
)

ends_rise : (low high : ℕ) (runs : List Run) → AreJoined low high runs → IsNonDecreasingBy (λ (run : Run). run.to) runs
ends_rise low high [] joined i j d le within = absurd (omega (arith, within))
ends_rise low high (run ∷ others) joined zero zero d le within = omega arith
ends_rise low high (run ∷ others) joined zero (suc j) d le within =
    let there = AllByRecursion-get_or (StandsBehind run.to) others j d (omega (arith, within)) (all_behind run.to run.to high others joined.1.1 (omega arith)) in
    omega (arith, there.0, there.1)
ends_rise low high (run ∷ others) joined (suc i) zero d le within = absurd (omega (arith, le))
ends_rise low high (run ∷ others) joined (suc i) (suc j) d le within = ends_rise run.to high others joined.1.1 i j d (omega (arith, le)) (omega (arith, within))

begins_rise : (low high : ℕ) (runs : List Run) → AreJoined low high runs → IsNonDecreasingBy (λ (run : Run). run.from) runs
begins_rise low high [] joined i j d le within = absurd (omega (arith, within))
begins_rise low high (run ∷ others) joined zero zero d le within = omega arith
begins_rise low high (run ∷ others) joined zero (suc j) d le within =
    let there = AllByRecursion-get_or (StandsBehind run.to) others j d (omega (arith, within)) (all_behind run.to run.to high others joined.1.1 (omega arith)) in
    omega (arith, there.0, joined.1.0)
begins_rise low high (run ∷ others) joined (suc i) zero d le within = absurd (omega (arith, le))
begins_rise low high (run ∷ others) joined (suc i) (suc j) d le within = begins_rise run.to high others joined.1.1 i j d (omega (arith, le)) (omega (arith, within))

pub ends_order : (runs : List Run) → AreInOrder runs → IsNonDecreasingBy (λ (run : Run). run.to) runs
ends_order runs order = ends_rise order.0 order.1 runs order.2

pub begins_order : (runs : List Run) → AreInOrder runs → IsNonDecreasingBy (λ (run : Run). run.from) runs
begins_order runs order = begins_rise order.0 order.1 runs order.2

front_joined : (low high : ℕ) (runs : List Run) (n : ℕ) → AreJoined low high runs → (middle : ℕ) × AreJoined low middle (take n runs)
front_joined low high [] zero joined = (low, refl)
front_joined low high [] (suc n) joined = (low, refl)
front_joined low high (run ∷ others) zero joined = (low, refl)
front_joined low high (run ∷ others) (suc n) joined =
    let rest = front_joined run.to high others n joined.1.1 in (rest.0, (joined.0, (joined.1.0, rest.1)))

back_joined : (low high : ℕ) (runs : List Run) (n : ℕ) → AreJoined low high runs → (middle : ℕ) × AreJoined middle high (drop n runs)
back_joined low high [] zero joined = (low, joined)
back_joined low high [] (suc n) joined = (low, joined)
back_joined low high (run ∷ others) zero joined = (low, joined)
back_joined low high (run ∷ others) (suc n) joined = back_joined run.to high others n joined.1.1

pub front_order : (runs : List Run) (n : ℕ) → AreInOrder runs → AreInOrder (take n runs)
front_order runs n order = let front = front_joined order.0 order.1 runs n order.2 in (order.0, front.0, front.1)

back_order : (runs : List Run) (n : ℕ) → AreInOrder runs → AreInOrder (drop n runs)
back_order runs n order = let back = back_joined order.0 order.1 runs n order.2 in (back.0, order.1, back.1)

pub cut_order : (place : ℕ) (runs : List Run) → AreInOrder runs → AreInOrder (cut place runs)
cut_order place runs order = (order.0, order.1, cut-joined place order.0 order.1 runs order.2)

all_have : (runs : List Run) → AreInOrder runs → AllByRecursion (λ (run : Run). run.from < run.to) runs
all_have runs order =
    AllByRecursion-implies (StandsBehind order.0) (λ (run : Run). run.from < run.to) (λ run stands. stands.1) runs
    (all_behind order.0 order.0 order.1 runs order.2 (omega arith))

-- ---- the runs between two places

module _ (from to first last : ℕ) (runs : List Run) (order : AreInOrder runs) (most : last ≤ length runs) (within : first ≤ length (take last runs))
    (ended : AllByRecursion (λ (run : Run). run.to ≤ from) (take first (take last runs)))
    (begun : AllByRecursion (λ (run : Run). to ≤ run.from) (drop last runs)) where
  pub least : first ≤ last
  least = omega (arith, within, length-take last runs, most)

  before : AllByRecursion (λ (run : Run). run.to ≤ from) (take first runs)
  before = subst (AllByRecursion (λ (run : Run). run.to ≤ from)) (take-take first last runs least) ended

  behind : AllByRecursion (λ (run : Run). to ≤ run.from) (drop (last - first) (drop first runs))
  behind =
      let same : first + (last - first) ≡ last = omega (arith, least) in
      subst (AllByRecursion (λ (run : Run). to ≤ run.from)) (sym (drop-drop (last - first) first runs ∙ ap (λ n. drop n runs) same)) begun

  pub gap_between : list_any (is_gap from to) (take (last - first) (drop first runs)) ≡ list_any (is_gap from to) runs
  gap_between =
      part_any (is_gap from to) runs first (last - first)
      (AllByRecursion-implies (λ (run : Run). run.to ≤ from) (λ run. is_gap from to run ≡ false)
      (λ run h. and_right (is_hole run) (nat_lt (max run.from from) (min run.to to)) (le-ltb (max run.from from) (min run.to to) (omega (arith, h)))) (take first runs) before)
      (AllByRecursion-implies (λ (run : Run). to ≤ run.from) (λ run. is_gap from to run ≡ false)
      (λ run h. and_right (is_hole run) (nat_lt (max run.from from) (min run.to to)) (le-ltb (max run.from from) (min run.to to) (omega (arith, h)))) (drop (last - first) (drop first runs)) behind)

  pub marked_between : (by : ℕ) → take first runs ++ (map (marked from to by) (take (last - first) (drop first runs)) ++ drop (last - first) (drop first runs))
      ≡ map (marked from to by) runs
  marked_between by =
      part_mapped (marked from to by) runs first (last - first)
      (AllByRecursion-both (λ (run : Run). run.to ≤ from) (λ (run : Run). run.from < run.to) (λ run. marked from to by run ≡ run)
      (λ run h less. unmarked run (and_right (is_hole run) (nat_le from run.from && nat_le run.to to)
      (and_left (nat_le from run.from) (nat_le run.to to) (lt-leb from run.from (omega (arith, h, less)))))) (take first runs) before (all_have (take first runs) (front_order runs first order)))
      (AllByRecursion-both (λ (run : Run). to ≤ run.from) (λ (run : Run). run.from < run.to) (λ run. marked from to by run ≡ run)
      (λ run h less. unmarked run (and_right (is_hole run) (nat_le from run.from && nat_le run.to to)
      (and_right (nat_le from run.from) (nat_le run.to to) (lt-leb run.to to (omega (arith, h, less)))))) (drop (last - first) (drop first runs)) behind
      (all_have (drop (last - first) (drop first runs)) (back_order (drop first runs) (last - first) (back_order runs first order))))
    where
      unmarked : (run : Run) → (is_hole run && (nat_le from run.from && nat_le run.to to)) ≡ false → marked from to by run ≡ run
      unmarked run f = ap (λ b. cond b (record run { by = Some by }) run) f

-- ---- the hole that a place lies in

-- what is at the place where the search ends
abbrev hole_there : ℕ → ℕ → Option Run → Option ℕ
hole_there place at None = None
hole_there place at (Some run) = cond (is_hole run && nat_lt run.from place) (Some at) None

hole_from : (place start low high : ℕ) (runs : List Run) (at : ℕ) → AreJoined low high runs
    → AllByRecursion (λ (run : Run). run.to ≤ place) (take at runs) → AllByRecursion (λ (run : Run). place < run.to) (drop at runs)
    → position_from (is_across place) start runs ≡ hole_there place (start + at) (slice_get runs at)
hole_from place start low high [] zero joined ended others = refl
hole_from place start low high [] (suc at) joined ended others = refl
hole_from place start low high (run ∷ runs) zero joined ended others =
    let high_end : nat_lt place run.to ≡ true = lt-ltb place run.to others.0 in
    let none : position_from (is_across place) (start + 1) runs ≡ None =
    position_none (is_across place) (start + 1) runs (none_behind place run.to high runs joined.1.1 (omega (arith, others.0))) in
    let same : start ≡ start + 0 = omega arith in
    rw (high_end, none) (rw (← same) (here (is_hole run) (nat_lt run.from place)))
  where
    here : (b c : Bool) → cond (b && (c && true)) (Some start) None ≡ cond (b && c) (Some start) None
    here true true = refl
    here true false = refl
    here false true = refl
    here false false = refl
hole_from place start low high (run ∷ runs) (suc at) joined ended others =
    let low_end : nat_lt place run.to ≡ false = le-ltb place run.to ended.0 in
    let passed : is_across place run ≡ false =
    and_right (is_hole run) (nat_lt run.from place && nat_lt place run.to) (and_right (nat_lt run.from place) (nat_lt place run.to) low_end) in
    let same : start + 1 + at ≡ start + suc at = omega arith in
    rw passed (hole_from place (start + 1) run.to high runs at joined.1.1 ended.1 others
    ∙ ap (λ n. hole_there place n (slice_get runs at)) same)

pub hole_is : (place : ℕ) (runs : List Run) (at : ℕ) → AreInOrder runs → AllByRecursion (λ (run : Run). run.to ≤ place) (take at runs)
    → AllByRecursion (λ (run : Run). place < run.to) (drop at runs) → position_from (is_across place) 0 runs ≡ hole_there place at (slice_get runs at)
hole_is place runs at order ended others =
    let same : 0 + at ≡ at = omega arith in
    hole_from place 0 order.0 order.1 runs at order.2 ended others ∙ ap (λ n. hole_there place n (slice_get runs at)) same

module _ (place : ℕ) (runs : List Run) (at : ℕ) (order : AreInOrder runs) (ended : AllByRecursion (λ (run : Run). run.to ≤ place) (take at runs))
    (others : AllByRecursion (λ (run : Run). place < run.to) (drop at runs)) where
  -- no run ends behind the place
  pub hole_missing : nat_lt at (length runs) ≡ false → None ≡ position_from (is_across place) 0 runs
  hole_missing none = sym (hole_is place runs at order ended others ∙ ap (hole_there place at) (nothing runs at (ltb-false at (length runs) none)))
    where
      nothing : (xs : List Run) (i : ℕ) → length xs ≤ i → slice_get xs i ≡ None
      nothing [] zero le = refl
      nothing [] (suc i) le = refl
      nothing (x ∷ xs) zero le = absurd (omega (arith, le))
      nothing (x ∷ xs) (suc i) le = nothing xs i (omega (arith, le))

  module _ (run : Run) (within : at < length runs) (read : run ≡ get_or runs at run) where
    there : position_from (is_across place) 0 runs ≡ cond (is_hole run && nat_lt run.from place) (Some at) None
    there =
        hole_is place runs at order ended others
        ∙ ap (hole_there place at) (slice_get-get_or runs at run within ∙ ap Some (sym read))

    pub hole_found : is_some run.by ≡ false → run.from < place → Some at ≡ position_from (is_across place) 0 runs
    hole_found hole before =
        sym (there ∙ cond-true (is_hole run && nat_lt run.from place) (Some at) None (and_from (is_hole run) (nat_lt run.from place) (is_none_from run.by hole) (lt-ltb run.from place before)))
      where
        is_none_from : (by : Option ℕ) → is_some by ≡ false → is_none by ≡ true
        is_none_from None f = refl
        is_none_from (Some by) f = absurd (cc)

    pub hole_begins : place ≤ run.from → None ≡ position_from (is_across place) 0 runs
    hole_begins behind =
        sym (there ∙ cond-false (is_hole run && nat_lt run.from place) (Some at) None (and_right (is_hole run) (nat_lt run.from place) (le-ltb run.from place behind)))

    pub no_hole : is_some run.by ≡ true → None ≡ position_from (is_across place) 0 runs
    no_hole filled =
        sym (there ∙ cond-false (is_hole run && nat_lt run.from place) (Some at) None (and_left (is_hole run) (nat_lt run.from place) (is_none_not run.by filled)))
      where
        is_none_not : (by : Option ℕ) → is_some by ≡ true → is_none by ≡ false
        is_none_not None t = absurd (cc)
        is_none_not (Some by) t = refl

-- a hole with a place between two is one with a place of the unit
pub gap_within : (from to places : ℕ) (runs : List Run) → to ≤ places → list_any (is_gap from to) runs ≡ true → list_any (is_gap 0 places) runs ≡ true
gap_within from to places [] within e = e
gap_within from to places (run ∷ others) within e =
    elim (or_cases (is_gap from to run) (list_any (is_gap from to) others) e) [
      | inl here ↦
          let parts = and_parts (is_hole run) (nat_lt (max run.from from) (min run.to to)) here in
          let l = ltb-true (max run.from from) (min run.to to) parts.1 in
          or_left (is_gap 0 places run) (list_any (is_gap 0 places) others)
          (and_from (is_hole run) (nat_lt (max run.from 0) (min run.to places)) parts.0 (lt-ltb (max run.from 0) (min run.to places) (omega (arith, l, within))))
      | inr rest ↦ or_right (is_gap 0 places run) (list_any (is_gap 0 places) others) (gap_within from to places others within rest)
    ]
