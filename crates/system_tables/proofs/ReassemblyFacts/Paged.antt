-- The page on which a hole is cut.
use Rattle.std.proofs.Common.{◌≡◌, ℕ, zero, suc, ◌+◌, ◌-◌, ◌<◌, ◌≤◌, nat_lt, Bool, true, false, List, [], ◌∷◌, ◌++◌, Some, None, length, map, take, take-add, drop, get_or, inl, inr, refl, sym, ap, subst, ◌∙◌, arith}
use Rattle.std.specs.Prelude.{slice_get, slice_set}
use Rattle.std.specs.List.{insert, list_any, position_from, remove}
use Rattle.std.proofs.lemmas.Bool.{cases_Bool, false≢true, ltb-false, ltb-true, or_cases, or_left, or_right}
use Rattle.std.proofs.lemmas.List.{append-nil, append_assoc, drop-drop, drop-append-le, drop_at, get_or-append_right, get_or-drop, get_or_default, length-append, length-map, get_or-take, length-drop, length-set, length-take, set-append_left, set-append_right, take-append-drop, take-take, take_all, take_at, take_more}
use Rattle.std.proofs.lemmas.List.Edits.{insert-append_left, insert-append_right, length-insert, map_over_more}
use Rattle.std.proofs.lemmas.Option.{get_or_from_slice_get, same_Some, slice_get-get_or, slice_get_within}
use Rattle.pdus.proofs.ClnpBase.Found.{is_first, none_found}
use Rattle.system_tables.specs.declared.reassembly.runs.Run.{Run}
use Rattle.system_tables.specs.Reassembly.Pages.{AreCut, AreHalves, ends_behind, on_pages, wanting}
use Rattle.system_tables.specs.Reassembly.Runs.{AreInOrder, AreJoined, cut, is_across}
use Rattle.system_tables.proofs.ReassemblyFacts.Groups.{on_pages-append, parted}
use Rattle.system_tables.proofs.ReassemblyFacts.Filling.{NoneAcross, any_parts, cut_none, none_at_end, none_behind}

-- ---- runs in order, in two parts

pub joined_parts : (low high : ℕ) (runs others : List Run) → AreJoined low high (runs ++ others)
    → (middle : ℕ) × AreJoined low middle runs × AreJoined middle high others
joined_parts low high [] others joined = (low, refl, joined)
joined_parts low high (run ∷ runs) others joined =
    let rest = joined_parts run.to high runs others joined.1.1 in
    (rest.0, (joined.0, (joined.1.0, rest.1)), rest.2)

pub first_order : (runs others : List Run) → AreInOrder (runs ++ others) → AreInOrder runs
first_order runs others order = let parts = joined_parts order.0 order.1 runs others order.2 in (order.0, parts.0, parts.1)

pub rest_order : (runs others : List Run) → AreInOrder (runs ++ others) → AreInOrder others
rest_order runs others order = let parts = joined_parts order.0 order.1 runs others order.2 in (parts.0, order.1, parts.2)

pub page_order : (pages : List (List Run)) (at : ℕ) (page : List Run) → AreInOrder (on_pages pages) → slice_get pages at ≡ Some page → AreInOrder page
page_order [] at page order e = absurd (cc)
page_order (first ∷ pages) zero page order e = subst AreInOrder (same_Some first page e) (first_order first (on_pages pages) order)
page_order (first ∷ pages) (suc at) page order e = page_order pages at page (rest_order first (on_pages pages) order) e

ends_last : (place low high : ℕ) (run : Run) (others : List Run) → AreJoined low high (run ∷ others) → ends_behind place (run ∷ others) ≡ nat_lt place high
ends_last place low high run [] joined = ap (nat_lt place) joined.1.1
ends_last place low high run (next ∷ others) joined = ends_last place run.to high next others joined.1.1

-- ---- a place, in runs of two parts

cut_first : (place : ℕ) (runs others : List Run) → NoneAcross place others → cut place (runs ++ others) ≡ cut place runs ++ others
cut_first place [] others none = cut_none place others none
cut_first place (run ∷ runs) others none =
    elim (cases_Bool (is_across place run)) [
      | inl t ↦ rw t refl
      | inr f ↦ rw f (ap (λ l. run ∷ l) (cut_first place runs others none))
    ]

cut_rest : (place : ℕ) (runs others : List Run) → NoneAcross place runs → cut place (runs ++ others) ≡ runs ++ cut place others
cut_rest place [] others none = refl
cut_rest place (run ∷ runs) others none =
    let parts = any_parts place run runs none in
    rw parts.0 (ap (λ l. run ∷ l) (cut_rest place runs others parts.1))

-- no hole is across a place from which on no run of the page has places
none_on : (place low high : ℕ) (page : List Run) → AreJoined low high page → ends_behind place page ≡ false → NoneAcross place page
none_on place low high [] joined e = refl
none_on place low high (run ∷ others) joined e =
    none_at_end place low high (run ∷ others) joined (ltb-false place high (sym (ends_last place low high run others joined) ∙ e))

behind_here : (place low high : ℕ) (page : List Run) → AreJoined low high page → ends_behind place page ≡ true → place < high
behind_here place low high [] joined e = absurd (false≢true e)
behind_here place low high (run ∷ others) joined e = ltb-true place high (sym (ends_last place low high run others joined) ∙ e)

pub any_none : {X : Type 0} (p : X → Bool) (x : X) (xs : List X) → list_any p (x ∷ xs) ≡ false → (p x ≡ false) × (list_any p xs ≡ false)
any_none p x xs none =
    elim (cases_Bool (p x)) [
      | inl t ↦ absurd (let h = rw t at none in cc)
      | inr f ↦ (f, rw f at none)
    ]

cut_on : (place at low high : ℕ) (pages : List (List Run)) (page : List Run) → AreJoined low high (on_pages pages) → slice_get pages at ≡ Some page
    → list_any (ends_behind place) (take at pages) ≡ false → ends_behind place page ≡ true
    → cut place (on_pages pages) ≡ on_pages (take at pages) ++ (cut place page ++ on_pages (drop (suc at) pages))
cut_on place at low high [] page joined e before passes = absurd (cc)
cut_on place zero low high (first ∷ others) page joined e before passes =
    let same : first ≡ page = same_Some first page e in
    let parts = joined_parts low high first (on_pages others) joined in
    let behind = behind_here place low parts.0 first parts.1 (ap (ends_behind place) same ∙ passes) in
    cut_first place first (on_pages others) (none_behind place parts.0 high (on_pages others) parts.2 (omega (arith, behind)))
    ∙ ap (λ l. cut place l ++ on_pages others) same
cut_on place (suc at) low high (first ∷ others) page joined e before passes =
    let parts = joined_parts low high first (on_pages others) joined in
    let none = any_none (ends_behind place) first (take at others) before in
    let rest = cut_on place at parts.0 high others page parts.2 e none.1 passes in
    cut_rest place first (on_pages others) (none_on place low parts.0 first parts.1 none.0)
    ∙ ap (λ l. first ++ l) rest
    ∙ sym (append_assoc first (on_pages (take at others)) (cut place page ++ on_pages (drop (suc at) others)))

uncut : (place low high : ℕ) (pages : List (List Run)) → AreJoined low high (on_pages pages) → list_any (ends_behind place) pages ≡ false
    → cut place (on_pages pages) ≡ on_pages pages
uncut place low high [] joined none = refl
uncut place low high (first ∷ others) joined none =
    let parts = joined_parts low high first (on_pages others) joined in
    let nothing = any_none (ends_behind place) first others none in
    cut_rest place first (on_pages others) (none_on place low parts.0 first parts.1 nothing.0)
    ∙ ap (λ l. first ++ l) (uncut place parts.0 high others parts.2 nothing.1)

pub nothing_cut : (place : ℕ) (pages : List (List Run)) → AreInOrder (on_pages pages) → position_from (ends_behind place) 0 pages ≡ None
    → on_pages pages ≡ cut place (on_pages pages)
nothing_cut place pages order e = sym (uncut place order.0 order.1 pages order.2 (none_found (ends_behind place) 0 pages e))

-- ---- other runs on a page

on_set : (pages : List (List Run)) (at : ℕ) (page new : List Run) → slice_get pages at ≡ Some page
    → on_pages (slice_set pages at new) ≡ on_pages (take at pages) ++ (new ++ on_pages (drop (suc at) pages))
on_set [] at page new e = absurd (cc)
on_set (first ∷ others) zero page new e = refl
on_set (first ∷ others) (suc at) page new e =
    ap (λ l. first ++ l) (on_set others at page new e) ∙ sym (append_assoc first (on_pages (take at others)) (new ++ on_pages (drop (suc at) others)))

on_two : (pages : List (List Run)) (at : ℕ) (page new second : List Run) → slice_get pages at ≡ Some page
    → on_pages (insert (slice_set pages at new) (suc at) second) ≡ on_pages (take at pages) ++ ((new ++ second) ++ on_pages (drop (suc at) pages))
on_two [] at page new second e = absurd (cc)
on_two (first ∷ others) zero page new second e = sym (append_assoc new second (on_pages others))
on_two (first ∷ others) (suc at) page new second e =
    ap (λ l. first ++ l) (on_two others at page new second e)
    ∙ sym (append_assoc first (on_pages (take at others)) ((new ++ second) ++ on_pages (drop (suc at) others)))

wanting_set : (pages : List (List Run)) (at : ℕ) (page new : List Run) → slice_get pages at ≡ Some page → length page ≤ length new
    → wanting (slice_set pages at new) ≤ wanting pages
wanting_set [] at page new e more = absurd (cc)
wanting_set (first ∷ others) zero page new e more = omega (arith, ap length (same_Some first page e), more)
wanting_set (first ∷ others) (suc at) page new e more = omega (arith, wanting_set others at page new e more)

wanting_two : (pages : List (List Run)) (at : ℕ) (page new second : List Run) → slice_get pages at ≡ Some page → 32 ≤ length new → 32 ≤ length second
    → wanting (insert (slice_set pages at new) (suc at) second) ≤ wanting pages
wanting_two [] at page new second e half rest = absurd (cc)
wanting_two (first ∷ others) zero page new second e half rest = omega (arith, half, rest)
wanting_two (first ∷ others) (suc at) page new second e half rest = omega (arith, wanting_two others at page new second e half rest)

pub cut_longer : (place : ℕ) (runs : List Run) → length runs ≤ length (cut place runs)
cut_longer place [] = omega arith
cut_longer place (run ∷ others) =
    elim (cases_Bool (is_across place run)) [
      | inl t ↦ rw t (omega arith)
      | inr f ↦ rw f (let rest = cut_longer place others in omega arith)
    ]

-- ---- the pages of a unit among others

pub set_inside : {X : Type 0} (before group after : List X) (start at : ℕ) (x : X) → length before ≡ start → at < length group
    → slice_set (before ++ (group ++ after)) (start + at) x ≡ before ++ (slice_set group at x ++ after)
set_inside before group after start at x long within =
    set-append_right before (group ++ after) start (start + at) x long (omega arith)
    ∙ ap (λ n. before ++ slice_set (group ++ after) n x) (let e : start + at - start ≡ at = omega arith in e)
    ∙ ap (λ l. before ++ l) (set-append_left group after at x within)

pub insert_inside : {X : Type 0} (before group after : List X) (start at : ℕ) (x : X) → length before ≡ start → at ≤ length group
    → insert (before ++ (group ++ after)) (start + at) x ≡ before ++ (insert group at x ++ after)
insert_inside before group after start at x long within =
    insert-append_right before (group ++ after) start (start + at) x long (omega arith)
    ∙ ap (λ n. before ++ insert (group ++ after) n x) (let e : start + at - start ≡ at = omega arith in e)
    ∙ ap (λ l. before ++ l) (insert-append_left group after at x within)

-- ---- the page of a unit on which a hole is cut

module _ (place at : ℕ) (pages : List (List Run)) (page : List Run) (order : AreInOrder (on_pages pages))
    (found : position_from (ends_behind place) 0 pages ≡ Some at) (read : page ≡ get_or pages at page) where
  pub at_within : at < length pages
  at_within = (is_first (ends_behind place) at pages found).within

  pub page_there : slice_get pages at ≡ Some page
  page_there = slice_get-get_or pages at page at_within ∙ ap Some (sym read)

  pub page_in_order : AreInOrder page
  page_in_order = page_order pages at page order page_there

  cut_here : cut place (on_pages pages) ≡ on_pages (take at pages) ++ (cut place page ++ on_pages (drop (suc at) pages))
  cut_here =
      let first = is_first (ends_behind place) at pages found in
      cut_on place at order.0 order.1 pages page order.2 page_there first.before (first.passes page read)

  module _ (new : List Run) where
    pub whole_runs : new ≡ cut place page → on_pages (slice_set pages at new) ≡ cut place (on_pages pages)
    whole_runs e =
        on_set pages at page new page_there
        ∙ ap (λ l. on_pages (take at pages) ++ (l ++ on_pages (drop (suc at) pages))) e ∙ sym cut_here

    pub whole_dense : new ≡ cut place page → wanting (slice_set pages at new) ≤ wanting pages
    whole_dense e = wanting_set pages at page new page_there (omega (arith, ap length e, cut_longer place page))

    module _ (second : List Run) where
      next : at + 1 ≡ suc at
      next = omega arith

      pub halves_runs : new ++ second ≡ cut place page → on_pages (insert (slice_set pages at new) (at + 1) second) ≡ cut place (on_pages pages)
      halves_runs e =
          ap (λ n. on_pages (insert (slice_set pages at new) n second)) next ∙ on_two pages at page new second page_there
          ∙ ap (λ l. on_pages (take at pages) ++ (l ++ on_pages (drop (suc at) pages))) e ∙ sym cut_here

      pub halves_dense : 32 ≤ length new → 32 ≤ length second → wanting (insert (slice_set pages at new) (at + 1) second) ≤ wanting pages
      halves_dense half rest =
          subst (λ n. wanting (insert (slice_set pages at new) n second) ≤ wanting pages) (sym next) (wanting_two pages at page new second page_there half rest)

      pub halves_number : length (insert (slice_set pages at new) (at + 1) second) ≡ length pages + 1
      halves_number = omega (
        arith,
        length-insert (slice_set pages at new) (at + 1) second (omega (arith, length-set pages at new, at_within)),
        length-set pages at new,
      )

-- ---- what is left of the runs of a unit

pub next_page : (first page : List Run) (others rest : List (List Run)) → length first ≡ 0 → others ≡ page ∷ rest
    → page ++ on_pages rest ≡ first ++ on_pages others
next_page [] page others rest a e = sym (ap on_pages e)
next_page (run ∷ first) page others rest a e = absurd (omega arith)

-- ---- pages, one by one

pub set_part : {X : Type 0} (xs : List X) (i : ℕ) (x : X) → i < length xs → x ≡ get_or xs i x → slice_get xs i ≡ Some x
set_part xs i x within read = slice_get-get_or xs i x within ∙ ap Some (sym read)

any_append : {X : Type 0} (p : X → Bool) (xs ys : List X) → list_any p xs ≡ false → list_any p ys ≡ false → list_any p (xs ++ ys) ≡ false
any_append p [] ys a b = b
any_append p (x ∷ xs) ys a b = let parts = any_none p x xs a in rw parts.0 (any_append p xs ys parts.1 b)

any_rest : {X : Type 0} (p : X → Bool) (xs ys : List X) → list_any p ys ≡ true → list_any p (xs ++ ys) ≡ true
any_rest p [] ys t = t
any_rest p (x ∷ xs) ys t = or_right (p x) (list_any p (xs ++ ys)) (any_rest p xs ys t)

any_first : {X : Type 0} (p : X → Bool) (xs ys : List X) → list_any p xs ≡ true → list_any p (xs ++ ys) ≡ true
any_first p [] ys t = absurd (false≢true t)
any_first p (x ∷ xs) ys t =
    elim (or_cases (p x) (list_any p xs) t) [
      | inl here ↦ or_left (p x) (list_any p (xs ++ ys)) here
      | inr rest ↦ or_right (p x) (list_any p (xs ++ ys)) (any_first p xs ys rest)
    ]

pub any_on_page : (p : Run → Bool) (pages : List (List Run)) (i : ℕ) (page : List Run) → slice_get pages i ≡ Some page → list_any p page ≡ true
    → true ≡ list_any p (on_pages pages)
any_on_page p [] i page e t = absurd (cc)
any_on_page p (first ∷ pages) zero page e t = sym (any_first p first (on_pages pages) (ap (list_any p) (same_Some first page e) ∙ t))
any_on_page p (first ∷ pages) (suc i) page e t = sym (any_rest p first (on_pages pages) (sym (any_on_page p pages i page e t)))

pub none_more : (p : Run → Bool) (pages : List (List Run)) (i : ℕ) (page : List Run) → i < length pages → page ≡ get_or pages i page
    → list_any p (on_pages (take i pages)) ≡ false → list_any p page ≡ false → list_any p (on_pages (take (i + 1) pages)) ≡ false
none_more p pages i page within read before here =
    ap (λ l. list_any p (on_pages l)) (take_more pages i page within ∙ ap (λ x. take i pages ++ x ∷ []) (sym read))
    ∙ ap (list_any p) (on_pages-append (take i pages) (page ∷ []))
    ∙ any_append p (on_pages (take i pages)) (page ++ []) before (ap (list_any p) (append-nil page) ∙ here)

-- one page more is taken from the front of those that are taken out
pub next_taken : {X : Type 0} (xs : List X) (start k : ℕ) → start + k < length xs
    → remove (take start xs ++ drop (start + k) xs) start ≡ take start xs ++ drop (start + (k + 1)) xs
next_taken xs start k within =
    let long : length (take start xs) ≡ start = omega (arith, length-take start xs, within) in
    let next : start + k + 1 ≡ start + (k + 1) = omega arith in
    let here : suc start ≡ start + 1 = omega arith in
    ap (λ l. l ++ drop (suc start) (take start xs ++ drop (start + k) xs)) (take_at (take start xs) (drop (start + k) xs) start long)
    ∙ ap (λ l. take start xs ++ l)
    (ap (λ n. drop n (take start xs ++ drop (start + k) xs)) here ∙ sym (drop-drop 1 start (take start xs ++ drop (start + k) xs))
    ∙ ap (drop 1) (drop_at (take start xs) (drop (start + k) xs) start long)
    ∙ drop-drop 1 (start + k) xs ∙ ap (λ n. drop n xs) next)

-- an item that isn't mapped yet
pub still_there : {X : Type 0} (f : X → X) (xs ys : List X) (i : ℕ) (x : X) → i < length xs → ys ≡ map f (take i xs) ++ drop i xs → i < length ys
    → x ≡ get_or ys i x → slice_get xs i ≡ Some x
still_there {X = X} f xs ys i x within ys_are more read =
    rest xs i ∙ ap (λ l. slice_get l i) (sym ys_are) ∙ set_part ys i x more read
  where
    rest : (zs : List X) (k : ℕ) → slice_get zs k ≡ slice_get (map f (take k zs) ++ drop k zs) k
    rest [] zero = refl
    rest [] (suc k) = refl
    rest (z ∷ zs) zero = refl
    rest (z ∷ zs) (suc k) = rest zs k

-- a part of a part, among all
pub inner_part : {X : Type 0} (xs middle : List X) (s c a n : ℕ) → a + n ≤ c → s + c ≤ length xs
    → take (s + a) xs ++ (middle ++ drop n (drop (s + a) xs))
    ≡ take s xs ++ ((take a (take c (drop s xs)) ++ (middle ++ drop n (drop a (take c (drop s xs))))) ++ drop c (drop s xs))
inner_part xs middle s c a n within most =
    let rest = drop s xs in
    let part = take c rest in
    let long : a + n ≤ length part = omega (arith, length-take c rest, length-drop s xs, most, within) in
    let front : take (s + a) xs ≡ take s xs ++ take a part = take-add s a xs ∙ ap (λ l. take s xs ++ l) (sym (take-take a c rest (omega (arith, within)))) in
    let back : drop n (drop (s + a) xs) ≡ drop n (drop a part) ++ drop c rest
    = drop-drop n (s + a) xs ∙ ap (λ k. drop k xs) (let e : s + a + n ≡ s + (a + n) = omega arith in e) ∙ sym (drop-drop (a + n) s xs)
    ∙ ap (drop (a + n)) (sym (take-append-drop c rest)) ∙ drop-append-le (a + n) part (drop c rest) long
    ∙ ap (λ l. l ++ drop c rest) (sym (drop-drop n a part)) in
    ap (λ l. l ++ (middle ++ drop n (drop (s + a) xs))) front
    ∙ ap (λ l. (take s xs ++ take a part) ++ (middle ++ l)) back
    ∙ append_assoc (take s xs) (take a part) (middle ++ (drop n (drop a part) ++ drop c rest))
    ∙ ap (λ l. take s xs ++ (take a part ++ l)) (sym (append_assoc middle (drop n (drop a part)) (drop c rest)))
    ∙ ap (λ l. take s xs ++ l) (sym (append_assoc (take a part) (middle ++ drop n (drop a part)) (drop c rest)))

pub front_there : {X : Type 0} (xs : List X) (i n : ℕ) (x : X) → slice_get xs i ≡ Some x → i < n → slice_get (take n xs) i ≡ Some x
front_there [] i n x e within = absurd (cc)
front_there (y ∷ xs) i zero x e within = absurd (omega (arith, within))
front_there (y ∷ xs) zero (suc n) x e within = e
front_there (y ∷ xs) (suc i) (suc n) x e within = front_there xs i n x e (omega (arith, within))

pub first_parted : {X : Type 0} (xs rest : List X) (x : X) (n : ℕ) → slice_get xs 0 ≡ Some x → n ≡ length xs → rest ≡ take (n - 1) (drop 1 xs) → xs ≡ x ∷ rest
first_parted [] rest x n e long is = absurd (cc)
first_parted (y ∷ xs) rest x n e long is =
    let all : rest ≡ xs = is ∙ take_all (n - 1) xs (omega (arith, long)) in
    ap (λ z. z ∷ xs) (same_Some y x e) ∙ ap (λ l. x ∷ l) (sym all)

-- none is mapped yet
pub none_mapped : {X : Type 0} (f : X → X) (items : List X) (start : ℕ)
    → items ≡ take start items ++ (map f (take (start - start) (drop start items)) ++ drop (start - start) (drop start items))
none_mapped {X = X} f items start =
    sym (take-append-drop start items) ∙ ap (λ l. take start items ++ l)
    (sym (each (drop start items)) ∙ ap (λ n. map f (take n (drop start items)) ++ drop n (drop start items)) (let e : 0 ≡ start - start = omega arith in e))
  where
    each : (xs : List X) → map f (take 0 xs) ++ drop 0 xs ≡ xs
    each [] = refl
    each (x ∷ xs) = refl

-- items from one on, of which the first ones are mapped
module _ {X : Type 0} (f : X → X) (d : X) (items pages : List X) (start at : ℕ) (least : start ≤ at) (within : at < length items)
    (pages_are : pages ≡ take start items ++ (map f (take (at - start) (drop start items)) ++ drop (at - start) (drop start items))) where
  abbrev others : List X
  others = drop start items

  abbrev so_far : List X
  so_far = map f (take (at - start) others) ++ drop (at - start) others

  front_long : length (take start items) ≡ start
  front_long = omega (arith, length-take start items, least, within)

  inside_others : at - start < length others
  inside_others = omega (arith, length-drop start items, least, within)

  so_far_long : length so_far ≡ length others
  so_far_long = omega (
    arith,
    length-append (map f (take (at - start) others)) (drop (at - start) others),
    length-map (take (at - start) others) f,
    length-take (at - start) others,
    length-drop (at - start) others,
  )

  pub as_long : length pages ≡ length items
  as_long = omega (arith, ap length pages_are, length-append (take start items) so_far, so_far_long, front_long, length-drop start items, least, within)

  read_behind : get_or pages at d ≡ get_or so_far (at - start) d
  read_behind = ap (λ l. get_or l at d) pages_are ∙ get_or-append_right (take start items) so_far start at d front_long least

  pub not_mapped : slice_get others (at - start) ≡ Some (get_or pages at d)
  not_mapped =
      let more : at - start < length so_far = omega (arith, so_far_long, inside_others) in
      still_there f others so_far (at - start) (get_or pages at d) inside_others refl more
      (read_behind ∙ get_or_default so_far (at - start) d (get_or pages at d) more)

  pub mapped_more : slice_set pages at (f (get_or pages at d))
      ≡ take start items ++ (map f (take (at + 1 - start) others) ++ drop (at + 1 - start) others)
  mapped_more =
      let more : at - start < length so_far = omega (arith, so_far_long, inside_others) in
      let next : at - start + 1 ≡ at + 1 - start = omega (arith, least) in
      ap (λ l. slice_set l at (f (get_or pages at d))) pages_are
      ∙ set-append_right (take start items) so_far start at (f (get_or pages at d)) front_long least
      ∙ ap (λ l. take start items ++ l) (map_over_more f others so_far (at - start) (get_or pages at d) inside_others refl
      (read_behind ∙ get_or_default so_far (at - start) d (get_or pages at d) more))
      ∙ ap (λ n. take start items ++ (map f (take n others) ++ drop n others)) next

-- ---- the first that passes, found by a walk

module _ {X : Type 0} (p : X → Bool) where
  found_from : (start : ℕ) (xs : List X) (at : ℕ) (x : X) → slice_get xs at ≡ Some x → p x ≡ true → list_any p (take at xs) ≡ false
      → position_from p start xs ≡ Some (start + at)
  found_from start [] at x e passes none = absurd (cc)
  found_from start (y ∷ xs) zero x e passes none = rw (ap p (same_Some y x e) ∙ passes) (ap (λ n. Some n) (let e : start ≡ start + 0 = omega arith in e))
  found_from start (y ∷ xs) (suc at) x e passes none =
      let parts = any_none p y (take at xs) none in
      rw parts.0 (found_from (start + 1) xs at x e passes parts.1 ∙ ap (λ n. Some n) (let e : start + 1 + at ≡ start + suc at = omega arith in e))

  pub found_there : (xs : List X) (at : ℕ) (x : X) → slice_get xs at ≡ Some x → p x ≡ true → list_any p (take at xs) ≡ false
      → Some at ≡ position_from p 0 xs
  found_there xs at x e passes none = sym (found_from 0 xs at x e passes none ∙ ap (λ n. Some n) (let e : 0 + at ≡ at = omega arith in e))

  pub none_next : (xs : List X) (at : ℕ) (x : X) → slice_get xs at ≡ Some x → p x ≡ false → list_any p (take at xs) ≡ false
      → list_any p (take (at + 1) xs) ≡ false
  none_next xs at x e fails none =
      ap (list_any p) (take_more xs at x (slice_get_within xs at x e) ∙ ap (λ y. take at xs ++ y ∷ []) (get_or_from_slice_get xs at x x e))
      ∙ any_append p (take at xs) (x ∷ []) none (rw fails refl)

-- ---- a hole that is cut on one of the pages of a unit, among those of others

module _ (place start count at : ℕ) (pages : List (List Run)) (page : List Run) (within : start + count ≤ length pages)
    (order : AreInOrder (on_pages (take count (drop start pages))))
    (found : position_from (ends_behind place) 0 (take count (drop start pages)) ≡ Some at) where
  abbrev unit : List (List Run)
  unit = take count (drop start pages)

  unit_long : length unit ≡ count
  unit_long = omega (arith, length-take count (drop start pages), length-drop start pages, within)

  pub at_below : at < count
  at_below = omega (arith, (is_first (ends_behind place) at unit found).within, unit_long)

  before_long : length (take start pages) ≡ start
  before_long = omega (arith, length-take start pages, within)

  module _ (read : page ≡ get_or pages (start + at) page) where
    read_here : page ≡ get_or unit at page
    read_here = read ∙ sym (get_or-drop start pages at page) ∙ sym (get_or-take count (drop start pages) at page at_below)

    pub page_ordered : AreInOrder page
    page_ordered = page_in_order place at unit page order found read_here

    set_among : (new : List Run) → slice_set pages (start + at) new ≡ take start pages ++ (slice_set unit at new ++ drop count (drop start pages))
    set_among new =
        ap (λ l. slice_set l (start + at) new) (parted pages start count)
        ∙ set_inside (take start pages) unit (drop count (drop start pages)) start at new before_long (omega (arith, at_below, unit_long))

    pub cut_whole : (after : List (List Run)) → after ≡ slice_set pages (start + at) (cut place page) → AreCut place start count count pages after
    cut_whole after is = record {
      new = slice_set unit at (cut place page);
      pages_are = is ∙ set_among (cut place page);
      number = omega (arith, unit_long, length-set unit at (cut place page));
      runs = whole_runs place at unit page order found read_here (cut place page) refl;
      dense = whole_dense place at unit page order found read_here (cut place page) refl;
    }

    pub cut_halved : (after : List (List Run)) → AreHalves (cut place page) (start + at) pages after → AreCut place start count (count + 1) pages after
    cut_halved after halves =
        let next : start + at + 1 ≡ start + (at + 1) = omega arith in
        record {
          new = insert (slice_set unit at halves.first) (at + 1) halves.second;
          pages_are = halves.pages_are ∙ ap (λ l. insert l (start + at + 1) halves.second) (set_among halves.first)
              ∙ ap (λ n. insert (take start pages ++ (slice_set unit at halves.first ++ drop count (drop start pages))) n halves.second) next
              ∙ insert_inside (take start pages) (slice_set unit at halves.first) (drop count (drop start pages)) start (at + 1) halves.second before_long
              (omega (arith, at_below, unit_long, length-set unit at halves.first));
          number = omega (arith, unit_long, halves_number place at unit page order found read_here halves.first halves.second);
          runs = halves_runs place at unit page order found read_here halves.first halves.second halves.runs_are;
          dense = halves_dense place at unit page order found read_here halves.first halves.second halves.first_half halves.second_half;
        }

pub cut_nowhere : (place start count : ℕ) (pages : List (List Run)) → start + count ≤ length pages → AreInOrder (on_pages (take count (drop start pages)))
    → position_from (ends_behind place) 0 (take count (drop start pages)) ≡ None → AreCut place start count count pages pages
cut_nowhere place start count pages within order none = record {
  new = take count (drop start pages);
  pages_are = parted pages start count;
  number = omega (arith, length-take count (drop start pages), length-drop start pages, within);
  runs = nothing_cut place (take count (drop start pages)) order none;
  dense = omega arith;
}
