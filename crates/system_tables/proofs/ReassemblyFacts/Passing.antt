-- Pages that are passed over, as one of them tells.
use Rattle.std.proofs.Common.{◌≡◌, ℕ, zero, suc, ◌+◌, ◌-◌, ◌≤◌, ◌||◌, Bool, false, List, [], ◌∷◌, ◌++◌, Some, length, map, take, drop, inl, inr, refl, sym, ap, subst, ◌∙◌, arith}
use Rattle.std.specs.Prelude.{option_map, slice_get}
use Rattle.std.specs.List.{AllByRecursion, list_any, position_from}
use Rattle.std.proofs.lemmas.Bool.{cases_Bool, le-ltb}
use Rattle.std.proofs.lemmas.Option.{same_Some}
use Rattle.std.proofs.lemmas.List.{drop-drop, length-take, take-append-drop, take-take}
use Rattle.pdus.proofs.ClnpBase.Lists.{AllByRecursion-append, AllByRecursion-front, AllByRecursion-implies}
use Rattle.system_tables.specs.declared.reassembly.runs.Run.{Run}
use Rattle.system_tables.specs.Reassembly.Pages.{IsApart, ends_behind, on_pages}
use Rattle.system_tables.specs.Reassembly.Runs.{AreInOrder, AreJoined, is_gap, marked}
use Rattle.system_tables.proofs.ReassemblyFacts.Apart.{all_begin, all_end, no_gap, none_marked}
use Rattle.system_tables.proofs.ReassemblyFacts.Filling.{joined_order}
use Rattle.system_tables.proofs.ReassemblyFacts.Groups.{on_pages-append, parted}
use Rattle.system_tables.proofs.ReassemblyFacts.Paged.{any_none, first_order, joined_parts, rest_order}
use Rattle.system_tables.proofs.ReassemblyFacts.Searching.{part_mapped}

abbrev EndsBy : ℕ → Run → Type 0
EndsBy place run = run.to ≤ place

abbrev BeginsFrom : ℕ → Run → Type 0
BeginsFrom place run = place ≤ run.from

-- ---- one page tells of those before and behind it

module _ (place : ℕ) where
  low_below : (low high at : ℕ) (pages : List (List Run)) (page : List Run) → AreJoined low high (on_pages pages) → slice_get pages at ≡ Some page
      → ((a b : ℕ) → AreJoined a b page → b ≤ place) → low ≤ place
  low_below low high at [] page joined e ends = absurd (cc)
  low_below low high zero (first ∷ others) page joined e ends =
      let parts = joined_parts low high first (on_pages others) joined in
      let here = ends low parts.0 (subst (AreJoined low parts.0) (same_Some first page e) parts.1) in
      omega (arith, here, joined_order low parts.0 first parts.1)
  low_below low high (suc at) (first ∷ others) page joined e ends =
      let parts = joined_parts low high first (on_pages others) joined in
      let rest = low_below parts.0 high at others page parts.2 e ends in
      omega (arith, rest, joined_order low parts.0 first parts.1)

  page_ended : (low high : ℕ) (page : List Run) → AreJoined low high page → high ≤ place → AllByRecursion (EndsBy place) page
  page_ended low high page joined most =
      AllByRecursion-implies (λ (run : Run). run.to ≤ high) (EndsBy place) (λ run h. omega (arith, h, most)) page (all_end low high page joined)

  front_ended : (low high at : ℕ) (pages : List (List Run)) (page : List Run) → AreJoined low high (on_pages pages) → slice_get pages at ≡ Some page
      → ((a b : ℕ) → AreJoined a b page → b ≤ place) → AllByRecursion (EndsBy place) (on_pages (take (suc at) pages))
  front_ended low high at [] page joined e ends = absurd (cc)
  front_ended low high zero (first ∷ others) page joined e ends =
      let parts = joined_parts low high first (on_pages others) joined in
      let here = ends low parts.0 (subst (AreJoined low parts.0) (same_Some first page e) parts.1) in
      AllByRecursion-append (EndsBy place) first (on_pages (take zero others)) (page_ended low parts.0 first parts.1 here) (none others)
    where
      none : (pages : List (List Run)) → AllByRecursion (EndsBy place) (on_pages (take zero pages))
      none [] = tt
      none (page ∷ pages) = tt
  front_ended low high (suc at) (first ∷ others) page joined e ends =
      let parts = joined_parts low high first (on_pages others) joined in
      let least = low_below parts.0 high at others page parts.2 e ends in
      AllByRecursion-append (EndsBy place) first (on_pages (take (suc at) others)) (page_ended low parts.0 first parts.1 least)
      (front_ended parts.0 high at others page parts.2 e ends)

  back_begun : (low high at : ℕ) (pages : List (List Run)) (page : List Run) → AreJoined low high (on_pages pages) → slice_get pages at ≡ Some page
      → ((a b : ℕ) → AreJoined a b page → place ≤ a) → AllByRecursion (BeginsFrom place) (on_pages (drop at pages))
  back_begun low high at [] page joined e begins = absurd (cc)
  back_begun low high zero (first ∷ others) page joined e begins =
      let parts = joined_parts low high first (on_pages others) joined in
      let here = begins low parts.0 (subst (AreJoined low parts.0) (same_Some first page e) parts.1) in
      all_begin place low high (on_pages (first ∷ others)) joined here
  back_begun low high (suc at) (first ∷ others) page joined e begins =
      let parts = joined_parts low high first (on_pages others) joined in
      back_begun parts.0 high at others page parts.2 e begins

  pub pages_ended : (at : ℕ) (pages : List (List Run)) (page : List Run) → AreInOrder (on_pages pages) → slice_get pages at ≡ Some page
      → ((a b : ℕ) → AreJoined a b page → b ≤ place) → AllByRecursion (λ (run : Run). run.to ≤ place) (on_pages (take (suc at) pages))
  pages_ended at pages page order e ends = front_ended order.0 order.1 at pages page order.2 e ends

  pub pages_begun : (at : ℕ) (pages : List (List Run)) (page : List Run) → AreInOrder (on_pages pages) → slice_get pages at ≡ Some page
      → ((a b : ℕ) → AreJoined a b page → place ≤ a) → AllByRecursion (λ (run : Run). place ≤ run.from) (on_pages (drop at pages))
  pages_begun at pages page order e begins = back_begun order.0 order.1 at pages page order.2 e begins

pub none_passed : (place : ℕ) (pages : List (List Run)) → AllByRecursion (λ (run : Run). run.to ≤ place) (on_pages (take 0 pages))
none_passed place [] = tt
none_passed place (page ∷ pages) = tt

pub none_behind_all : (place : ℕ) (pages : List (List Run)) → AllByRecursion (λ (run : Run). place ≤ run.from) (on_pages (drop (length pages) pages))
none_behind_all place [] = tt
none_behind_all place (page ∷ pages) = none_behind_all place pages

-- ---- the first page that passes a test

module _ {X : Type 0} (p : X → Bool) where
  passed : (start n : ℕ) (xs : List X) → list_any p (take n xs) ≡ false → position_from p start xs ≡ position_from p (start + n) (drop n xs)
  passed start zero [] none = refl
  passed start (suc n) [] none = refl
  passed start zero (x ∷ xs) none = ap (λ s. position_from p s (x ∷ xs)) (let e : start ≡ start + 0 = omega arith in e)
  passed start (suc n) (x ∷ xs) none =
      let parts = any_none p x (take n xs) none in
      rw parts.0 (passed (start + 1) n xs parts.1 ∙ ap (λ s. position_from p s (drop n xs)) (let e : start + 1 + n ≡ start + suc n = omega arith in e))

  shifted : (n start : ℕ) (xs : List X) → position_from p (n + start) xs ≡ option_map (λ i. n + i) (position_from p start xs)
  shifted n start [] = refl
  shifted n start (x ∷ xs) =
      elim (cases_Bool (p x)) [
        | inl t ↦ rw t refl
        | inr f ↦ rw f (ap (λ s. position_from p s xs) (let e : n + start + 1 ≡ n + (start + 1) = omega arith in e) ∙ shifted n (start + 1) xs)
      ]

  position_behind : (n : ℕ) (xs : List X) → list_any p (take n xs) ≡ false → position_from p 0 xs ≡ option_map (λ i. n + i) (position_from p 0 (drop n xs))
  position_behind n xs none =
      passed 0 n xs none ∙ ap (λ s. position_from p s (drop n xs)) (let e : 0 + n ≡ n + 0 = omega arith in e) ∙ shifted n 0 (drop n xs)

module _ (P : Run → Type 0) where
  rest_all : (runs others : List Run) → AllByRecursion P (runs ++ others) → AllByRecursion P others
  rest_all [] others all = all
  rest_all (run ∷ runs) others all = rest_all runs others all.1

ends_not : (place : ℕ) (page : List Run) → AllByRecursion (EndsBy place) page → ends_behind place page ≡ false
ends_not place [] all = refl
ends_not place (run ∷ []) all = le-ltb place run.to all.0
ends_not place (run ∷ next ∷ others) all = ends_not place (next ∷ others) all.1

none_ends : (place : ℕ) (pages : List (List Run)) → AllByRecursion (EndsBy place) (on_pages pages) → list_any (ends_behind place) pages ≡ false
none_ends place [] all = refl
none_ends place (page ∷ pages) all =
    rw (ends_not place page (AllByRecursion-front (EndsBy place) page (on_pages pages) all)) (none_ends place pages (rest_all (EndsBy place) page (on_pages pages) all))

pub page_behind : (place n : ℕ) (pages : List (List Run)) → AllByRecursion (λ (run : Run). run.to ≤ place) (on_pages (take n pages))
    → position_from (ends_behind place) 0 pages ≡ option_map (λ i. n + i) (position_from (ends_behind place) 0 (drop n pages))
page_behind place n pages all = position_behind (ends_behind place) n pages (none_ends place (take n pages) all)

-- ---- the pages between two places

any_behind : {X : Type 0} (p : X → Bool) (xs ys : List X) → list_any p xs ≡ false → list_any p (xs ++ ys) ≡ list_any p ys
any_behind p [] ys none = refl
any_behind p (x ∷ xs) ys none = let parts = any_none p x xs none in rw parts.0 (any_behind p xs ys parts.1)

any_before : {X : Type 0} (p : X → Bool) (xs ys : List X) → list_any p ys ≡ false → list_any p (xs ++ ys) ≡ list_any p xs
any_before p [] ys none = none
any_before p (x ∷ xs) ys none = ap (λ b. p x || b) (any_before p xs ys none)

module _ (from to by : ℕ) (P : Run → Type 0) (apart : (runs : List Run) → AllByRecursion P runs → IsApart from to runs) where
  unmarked_pages : (pages : List (List Run)) → AreInOrder (on_pages pages) → AllByRecursion P (on_pages pages)
      → AllByRecursion (λ page. map (marked from to by) page ≡ page) pages
  unmarked_pages [] order all = tt
  unmarked_pages (page ∷ pages) order all = (
    sym (none_marked from to by page (first_order page (on_pages pages) order) (apart page (AllByRecursion-front P page (on_pages pages) all))),
    unmarked_pages pages (rest_order page (on_pages pages) order) (rest_all P page (on_pages pages) all),
  )

pub front_pages : (pages : List (List Run)) (n : ℕ) → AreInOrder (on_pages pages) → AreInOrder (on_pages (take n pages))
front_pages pages n order =
    let rest = drop n pages in
    first_order (on_pages (take n pages)) (on_pages rest) (subst AreInOrder (ap on_pages (sym (take-append-drop n pages)) ∙ on_pages-append (take n pages) rest) order)

module _ (from to first last : ℕ) (pages : List (List Run)) (order : AreInOrder (on_pages pages)) (most : last ≤ length pages) (within : first ≤ length (take last pages))
    (ended : AllByRecursion (λ (run : Run). run.to ≤ from) (on_pages (take first (take last pages))))
    (begun : AllByRecursion (λ (run : Run). to ≤ run.from) (on_pages (drop last pages))) where
  pub least : first ≤ last
  least = omega (arith, within, length-take last pages, most)

  abbrev front : List (List Run)
  front = take first pages

  abbrev between : List (List Run)
  between = take (last - first) (drop first pages)

  abbrev rest : List (List Run)
  rest = drop (last - first) (drop first pages)

  before : AllByRecursion (EndsBy from) (on_pages front)
  before = subst (λ l. AllByRecursion (EndsBy from) (on_pages l)) (take-take first last pages least) ended

  behind : AllByRecursion (BeginsFrom to) (on_pages rest)
  behind =
      let same : first + (last - first) ≡ last = omega (arith, least) in
      subst (λ l. AllByRecursion (BeginsFrom to) (on_pages l)) (sym (drop-drop (last - first) first pages ∙ ap (λ n. drop n pages) same)) begun

  parts : on_pages pages ≡ on_pages front ++ (on_pages between ++ on_pages rest)
  parts =
      ap on_pages (parted pages first (last - first)) ∙ on_pages-append front (between ++ rest)
      ∙ ap (λ l. on_pages front ++ l) (on_pages-append between rest)

  split : AreInOrder (on_pages front ++ (on_pages between ++ on_pages rest))
  split = subst AreInOrder parts order

  others_order : AreInOrder (on_pages between ++ on_pages rest)
  others_order = rest_order (on_pages front) (on_pages between ++ on_pages rest) split

  pub between_order : AreInOrder (on_pages between)
  between_order = first_order (on_pages between) (on_pages rest) others_order

  pub gap_on : list_any (is_gap from to) (on_pages between) ≡ list_any (is_gap from to) (on_pages pages)
  gap_on =
      sym (ap (list_any (is_gap from to)) parts
      ∙ any_behind (is_gap from to) (on_pages front) (on_pages between ++ on_pages rest) (sym (no_gap from to (on_pages front) (inl before)))
      ∙ any_before (is_gap from to) (on_pages between) (on_pages rest) (sym (no_gap from to (on_pages rest) (inr behind))))

  pub marks_on : (by : ℕ) → front ++ (map (map (marked from to by)) between ++ rest) ≡ map (map (marked from to by)) pages
  marks_on by =
      part_mapped (map (marked from to by)) pages first (last - first)
      (unmarked_pages from to by (EndsBy from) (λ runs all. inl all) front (first_order (on_pages front) (on_pages between ++ on_pages rest) split) before)
      (unmarked_pages from to by (BeginsFrom to) (λ runs all. inr all) rest (rest_order (on_pages between) (on_pages rest) others_order) behind)
