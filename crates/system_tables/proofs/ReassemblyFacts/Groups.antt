-- The pages of units, where those of one of them change.
use Rattle.std.proofs.Common.{◌≡◌, ℕ, zero, suc, ◌+◌, ◌-◌, ◌*◌, ◌<◌, ◌≤◌, List, [], ◌∷◌, ◌++◌, length, map, sum, take, drop, get_or, true, Some, None, refl, sym, ap, subst, ◌∙◌, arith, length-append}
use Rattle.std.specs.Prelude.{slice_get, slice_set}
use Rattle.std.specs.List.{AllByRecursion, insert, position_from, remove}
use Rattle.std.proofs.lemmas.List.{append-nil, append_assoc, drop-append-le, drop-drop, drop-map, drop_at, length-drop, length-map, length-set, length-take, length_push, map-append, take-append-drop, take-append-le, take-map, take_all, take_at}
use Rattle.std.proofs.lemmas.List.Edits.{length-remove}
use Rattle.system_tables.specs.declared.reassembly.runs.Run.{Run}
use Rattle.std.proofs.lemmas.Option.{same_Some}
use Rattle.pdus.proofs.ClnpBase.Found.{is_first, none_found}
use Rattle.pdus.proofs.ClnpBase.Lists.{AllByRecursion-append, AllByRecursion-slice_get}
use Rattle.system_tables.specs.Reassembly.Pages.{ArePages, IsDense, groups_of, on_pages, wanting}
use Rattle.system_tables.specs.Reassembly.Runs.{cut, is_across, total_runs}
use Rattle.system_tables.proofs.ReassemblyFacts.Filling.{NoneAcross, any_parts, cut_none}
use Rattle.pdus.proofs.ClnpBase.Sums.{sum-cons}

pub sum_before : (counts : List ℕ) (slot : ℕ) → slot < length counts → sum (take slot counts) + get_or counts slot 0 ≤ sum counts
sum_before [] slot within = absurd (omega arith)
sum_before (count ∷ counts) zero within = let e = sum-cons count counts in omega arith
sum_before (count ∷ counts) (suc slot) within =
    let rest = sum_before counts slot (omega arith) in
    let e = sum-cons count counts in
    let f = sum-cons count (take slot counts) in
    omega arith

pub length-groups : {X : Type 0} (counts : List ℕ) (items : List X) → length (groups_of counts items) ≡ length counts
length-groups [] items = refl
length-groups (count ∷ counts) items = ap suc (length-groups counts (drop count items))

pub group_at : {X : Type 0} (counts : List ℕ) (items : List X) (slot : ℕ) → slot < length counts
    → slice_get (groups_of counts items) slot ≡ Some (take (get_or counts slot 0) (drop (sum (take slot counts)) items))
group_at [] items slot within = absurd (omega arith)
group_at (count ∷ counts) items zero within = refl
group_at (count ∷ counts) items (suc slot) within =
    let rest = group_at counts (drop count items) slot (omega arith) in
    let e = sum-cons count (take slot counts) in
    let there : drop (sum (take slot counts)) (drop count items) ≡ drop (sum (count ∷ take slot counts)) items
    = drop-drop (sum (take slot counts)) count items ∙ ap (λ n. drop n items) (sym e) in
    rest ∙ ap (λ l. Some (take (get_or counts slot 0) l)) there

-- the group at a slot is another one
pub group_replaced : {X : Type 0} (counts : List ℕ) (slot : ℕ) (before group new after : List X) → slot < length counts
    → length before ≡ sum (take slot counts) → length group ≡ get_or counts slot 0
    → groups_of (slice_set counts slot (length new)) (before ++ (new ++ after)) ≡ slice_set (groups_of counts (before ++ (group ++ after))) slot new
group_replaced [] slot before group new after within at long = absurd (omega arith)
group_replaced (count ∷ counts) zero [] group new after within at long =
    let a = take_at new after (length new) refl in
    let b = drop_at new after (length new) refl in
    let c = drop_at group after count long in
    ap (λ l. l ∷ groups_of counts (drop (length new) (new ++ after))) a
    ∙ ap (λ l. new ∷ groups_of counts l) (b ∙ sym c)
group_replaced (count ∷ counts) zero (run ∷ before) group new after within at long = absurd (omega arith)
group_replaced (count ∷ counts) (suc slot) before group new after within at long =
    let e = sum-cons count (take slot counts) in
    let most : count ≤ length before = omega arith in
    let less : length (drop count before) ≡ sum (take slot counts) = (let d = length-drop count before in omega arith) in
    let rest = group_replaced counts slot (drop count before) group new after (omega arith) less long in
    ap (λ l. l ∷ groups_of (slice_set counts slot (length new)) (drop count (before ++ (new ++ after)))) (take-append-le count before (new ++ after) most ∙ sym (take-append-le count before (group ++ after) most))
    ∙ ap (λ l. take count (before ++ (group ++ after)) ∷ groups_of (slice_set counts slot (length new)) l) (drop-append-le count before (new ++ after) most)
    ∙ ap (λ l. take count (before ++ (group ++ after)) ∷ l) rest
    ∙ ap (λ l. take count (before ++ (group ++ after)) ∷ slice_set (groups_of counts l) slot new) (sym (drop-append-le count before (group ++ after) most))

-- the group at a slot is taken out
pub group_removed : {X : Type 0} (counts : List ℕ) (slot : ℕ) (before group after : List X) → slot < length counts
    → length before ≡ sum (take slot counts) → length group ≡ get_or counts slot 0
    → groups_of (remove counts slot) (before ++ after) ≡ remove (groups_of counts (before ++ (group ++ after))) slot
group_removed [] slot before group after within at long = absurd (omega arith)
group_removed (count ∷ counts) zero [] group after within at long = ap (groups_of counts) (sym (drop_at group after count long))
group_removed (count ∷ counts) zero (run ∷ before) group after within at long = absurd (omega arith)
group_removed (count ∷ counts) (suc slot) before group after within at long =
    let e = sum-cons count (take slot counts) in
    let most : count ≤ length before = omega arith in
    let less : length (drop count before) ≡ sum (take slot counts) = (let d = length-drop count before in omega arith) in
    let rest = group_removed counts slot (drop count before) group after (omega arith) less long in
    ap (λ l. l ∷ groups_of (remove counts slot) (drop count (before ++ after))) (take-append-le count before after most ∙ sym (take-append-le count before (group ++ after) most))
    ∙ ap (λ l. take count (before ++ (group ++ after)) ∷ groups_of (remove counts slot) l) (drop-append-le count before after most)
    ∙ ap (λ l. take count (before ++ (group ++ after)) ∷ l) rest
    ∙ ap (λ l. take count (before ++ (group ++ after)) ∷ remove (groups_of counts l) slot) (sym (drop-append-le count before (group ++ after) most))

pub sum-set : (counts : List ℕ) (slot count : ℕ) → slot < length counts → sum (slice_set counts slot count) + get_or counts slot 0 ≡ sum counts + count
sum-set [] slot count within = absurd (omega arith)
sum-set (first ∷ counts) zero count within = let e = sum-cons first counts in let f = sum-cons count counts in omega arith
sum-set (first ∷ counts) (suc slot) count within =
    let rest = sum-set counts slot count (omega arith) in
    let e = sum-cons first counts in
    let f = sum-cons first (slice_set counts slot count) in
    omega arith

pub sum-remove : (counts : List ℕ) (slot : ℕ) → slot < length counts → sum (remove counts slot) + get_or counts slot 0 ≡ sum counts
sum-remove [] slot within = absurd (omega arith)
sum-remove (first ∷ counts) zero within = let e = sum-cons first counts in omega arith
sum-remove (first ∷ counts) (suc slot) within =
    let rest = sum-remove counts slot (omega arith) in
    let e = sum-cons first counts in
    let f = sum-cons first (remove counts slot) in
    omega arith

-- a group more, at the end
pub group_pushed : {X : Type 0} (counts : List ℕ) (items new : List X) → sum counts ≡ length items
    → groups_of (counts ++ length new ∷ []) (items ++ new) ≡ groups_of counts items ++ new ∷ []
group_pushed [] [] new all = ap (λ l. l ∷ []) (take_all (length new) new (omega arith))
group_pushed [] (run ∷ items) new all = absurd (omega arith)
group_pushed (count ∷ counts) items new all =
    let e = sum-cons count counts in
    let most : count ≤ length items = omega arith in
    let rest = group_pushed counts (drop count items) new (let d = length-drop count items in omega arith) in
    ap (λ l. l ∷ groups_of (counts ++ length new ∷ []) (drop count (items ++ new))) (take-append-le count items new most)
    ∙ ap (λ l. take count items ∷ groups_of (counts ++ length new ∷ []) l) (drop-append-le count items new most)
    ∙ ap (λ l. take count items ∷ l) rest

pub groups-map : {X : Type 0} (f : X → X) (counts : List ℕ) (items : List X) → groups_of counts (map f items) ≡ map (map f) (groups_of counts items)
groups-map f [] items = refl
groups-map f (count ∷ counts) items =
    ap (λ l. l ∷ groups_of counts (drop count (map f items))) (take-map f count items)
    ∙ ap (λ l. map f (take count items) ∷ groups_of counts l) (drop-map f count items)
    ∙ ap (λ l. map f (take count items) ∷ l) (groups-map f counts (drop count items))

-- ---- one list, seen as what stands before a group, the group, and what stands behind it

pub parted : {X : Type 0} (items : List X) (start count : ℕ) → items ≡ take start items ++ (take count (drop start items) ++ drop count (drop start items))
parted items start count =
    sym (take-append-drop start items) ∙ ap (λ l. take start items ++ l) (sym (take-append-drop count (drop start items)))

-- ---- lists that are mapped, where one item changes

map-slice_set : {X Y : Type 0} (f : X → Y) (xs : List X) (i : ℕ) (x : X) → map f (slice_set xs i x) ≡ slice_set (map f xs) i (f x)
map-slice_set f [] i x = refl
map-slice_set f (y ∷ xs) zero x = refl
map-slice_set f (y ∷ xs) (suc i) x = ap (λ l. f y ∷ l) (map-slice_set f xs i x)

pub map-remove : {X Y : Type 0} (f : X → Y) (xs : List X) (i : ℕ) → map f (remove xs i) ≡ remove (map f xs) i
map-remove f [] zero = refl
map-remove f [] (suc i) = refl
map-remove f (y ∷ xs) zero = refl
map-remove f (y ∷ xs) (suc i) = ap (λ l. f y ∷ l) (map-remove f xs i)

slice_get-mapped : {X Y : Type 0} (f : X → Y) (xs : List X) (i : ℕ) (x : X) → slice_get xs i ≡ Some x → slice_get (map f xs) i ≡ Some (f x)
slice_get-mapped f [] i x e = absurd (cc)
slice_get-mapped f (y ∷ xs) zero x e = ap (λ z. Some (f z)) (same_Some y x e)
slice_get-mapped f (y ∷ xs) (suc i) x e = slice_get-mapped f xs i x e

all_set : {X : Type 0} (P : X → Type 0) (xs : List X) (i : ℕ) (x : X) → AllByRecursion P xs → P x → AllByRecursion P (slice_set xs i x)
all_set P [] i x all is = tt
all_set P (y ∷ xs) zero x all is = (is, all.1)
all_set P (y ∷ xs) (suc i) x all is = (all.0, all_set P xs i x all.1 is)

pub all_left : {X : Type 0} (P : X → Type 0) (xs : List X) (i : ℕ) → AllByRecursion P xs → AllByRecursion P (remove xs i)
all_left P [] zero all = tt
all_left P [] (suc i) all = tt
all_left P (y ∷ xs) zero all = all.1
all_left P (y ∷ xs) (suc i) all = (all.0, all_left P xs i all.1)

-- ---- runs on pages

pub on_pages-append : (pages others : List (List Run)) → on_pages (pages ++ others) ≡ on_pages pages ++ on_pages others
on_pages-append [] others = refl
on_pages-append (page ∷ pages) others =
    ap (λ l. page ++ l) (on_pages-append pages others) ∙ sym (append_assoc page (on_pages pages) (on_pages others))

pub on_pages-map : (f : Run → Run) (pages : List (List Run)) → on_pages (map (map f) pages) ≡ map f (on_pages pages)
on_pages-map f [] = refl
on_pages-map f (page ∷ pages) = ap (λ l. map f page ++ l) (on_pages-map f pages) ∙ sym (map-append f page (on_pages pages))

pub wanting-map : (f : Run → Run) (pages : List (List Run)) → wanting (map (map f) pages) ≡ wanting pages
wanting-map f [] = refl
wanting-map f (page ∷ pages) =
    ap (λ n. (32 - n) + wanting (map (map f) pages)) (length-map page f) ∙ ap (λ n. (32 - length page) + n) (wanting-map f pages)

-- the runs and what is wanting fill half of the pages
half_filled : (pages : List (List Run)) → 32 * length pages ≤ length (on_pages pages) + wanting pages
half_filled [] = omega arith
half_filled (page ∷ pages) = omega (arith, half_filled pages, length-append page (on_pages pages))

total-groups : (counts : List ℕ) (pages : List (List Run)) → sum counts ≡ length pages → total_runs (map on_pages (groups_of counts pages)) ≡ length (on_pages pages)
total-groups [] [] all = refl
total-groups [] (page ∷ pages) all = absurd (omega arith)
total-groups (count ∷ counts) pages all =
    let e = sum-cons count counts in
    let d = length-drop count pages in
    let rest = total-groups counts (drop count pages) (omega arith) in
    let f = sum-cons (length (on_pages (take count pages))) (map (λ runs. length runs) (map on_pages (groups_of counts (drop count pages)))) in
    let parts = on_pages-append (take count pages) (drop count pages) in
    let whole = ap on_pages (take-append-drop count pages) in
    let l = ap length (sym parts ∙ whole) in
    let m = length-append (on_pages (take count pages)) (on_pages (drop count pages)) in
    omega arith

few_pages : (counts : List ℕ) (pages : List (List Run)) → sum counts ≡ length pages → AllByRecursion IsDense (groups_of counts pages)
    → 32 * length pages ≤ total_runs (map on_pages (groups_of counts pages)) + 32 * length counts
few_pages [] [] all dense = omega arith
few_pages [] (page ∷ pages) all dense = absurd (omega arith)
few_pages (count ∷ counts) pages all dense =
    let e = sum-cons count counts in
    let d = length-drop count pages in
    let t = length-take count pages in
    let rest = few_pages counts (drop count pages) (omega arith) dense.1 in
    let f = sum-cons (length (on_pages (take count pages))) (map (λ runs. length runs) (map on_pages (groups_of counts (drop count pages)))) in
    let h = half_filled (take count pages) in
    omega (arith, dense.0, e, d, t, rest, f, h, all)

-- ---- the groups that pages and their counts stand for

module _ (counts : List ℕ) (pages : List (List Run)) (groups : List (List Run)) (groups_are : map on_pages (groups_of counts pages) ≡ groups)
    (all : sum counts ≡ length pages) where
  pub counted_as : length groups ≡ length counts
  counted_as = omega (arith, ap length groups_are, length-map (groups_of counts pages) on_pages, length-groups counts pages)

  pub inside : (slot : ℕ) → slot < length groups → slot < length counts
  inside slot within = omega (arith, counted_as)

  pub number : total_runs groups ≡ length (on_pages pages)
  number = ap total_runs (sym groups_are) ∙ total-groups counts pages all

  pub few : AllByRecursion IsDense (groups_of counts pages) → 32 * length pages ≤ total_runs groups + 32 * length counts
  few dense = omega (arith, few_pages counts pages all dense, ap total_runs groups_are)

  pub ends_within : (slot : ℕ) → slot < length groups → sum (take slot counts) + get_or counts slot 0 ≤ length pages
  ends_within slot within = omega (arith, sum_before counts slot (inside slot within), all)

  module _ (slot : ℕ) (within : slot < length groups) (start count : ℕ) (start_is : start ≡ sum (take slot counts)) (count_is : count ≡ get_or counts slot 0) where
    abbrev before : List (List Run)
    before = take start pages

    abbrev group : List (List Run)
    group = take count (drop start pages)

    abbrev behind : List (List Run)
    behind = drop count (drop start pages)

    pub fits : start + count ≤ length pages
    fits = omega (arith, ends_within slot within, start_is, count_is)

    stands : slice_get (groups_of counts pages) slot ≡ Some group
    stands =
        group_at counts pages slot (inside slot within)
        ∙ ap (λ n. Some (take n (drop (sum (take slot counts)) pages))) (sym count_is) ∙ ap (λ n. Some (take count (drop n pages))) (sym start_is)

    pub group_there : slice_get groups slot ≡ Some (on_pages group)
    group_there = ap (λ l. slice_get l slot) (sym groups_are) ∙ slice_get-mapped on_pages (groups_of counts pages) slot group stands

    pub group_is : (told : List Run) → slice_get groups slot ≡ Some told → on_pages group ≡ told
    group_is told e = same_Some (on_pages group) told (sym group_there ∙ e)

    long_before : length before ≡ sum (take slot counts)
    long_before = omega (arith, length-take start pages, fits, start_is)

    pub long_group : length group ≡ get_or counts slot 0
    long_group = omega (arith, length-take count (drop start pages), length-drop start pages, fits, count_is)

    module _ (new after : List (List Run)) (counted : List ℕ) (after_is : after ≡ before ++ (new ++ behind))
        (counted_is : counted ≡ slice_set counts slot (length new)) where
      parts_are : groups_of counted after ≡ slice_set (groups_of counts pages) slot new
      parts_are =
          ap (λ l. groups_of l after) counted_is
          ∙ ap (groups_of (slice_set counts slot (length new))) after_is
          ∙ group_replaced counts slot before group new behind (inside slot within) long_before long_group
          ∙ ap (λ l. slice_set (groups_of counts l) slot new) (sym (parted pages start count))

      -- another group at the slot
      pub replaced : map on_pages (groups_of counted after) ≡ slice_set groups slot (on_pages new)
      replaced =
          ap (map on_pages) parts_are ∙ map-slice_set on_pages (groups_of counts pages) slot new
          ∙ ap (λ l. slice_set l slot (on_pages new)) groups_are

      pub replaced_sum : sum counted ≡ length after
      replaced_sum =
          let set = ap sum counted_is in
          let s = sum-set counts slot (length new) (inside slot within) in
          let l = ap length after_is in
          let m = length-append before (new ++ behind) in
          let n = length-append new behind in
          let d = length-drop count (drop start pages) in
          let e = length-drop start pages in
          omega (arith, set, s, l, m, n, d, e, long_before, fits, all, start_is, count_is)

      pub replaced_dense : AllByRecursion IsDense (groups_of counts pages) → wanting new ≤ wanting group → AllByRecursion IsDense (groups_of counted after)
      replaced_dense dense less =
          let here = AllByRecursion-slice_get IsDense (groups_of counts pages) slot group stands dense in
          subst (AllByRecursion IsDense) (sym parts_are) (all_set IsDense (groups_of counts pages) slot new dense (omega (arith, here, less)))

    module _ (after : List (List Run)) (counted : List ℕ) (after_is : after ≡ before ++ drop (start + count) pages) (counted_is : counted ≡ remove counts slot) where
      rest_are : groups_of counted after ≡ remove (groups_of counts pages) slot
      rest_are =
          let rest : drop (start + count) pages ≡ behind = sym (drop-drop count start pages) in
          ap (λ l. groups_of l after) counted_is
          ∙ ap (groups_of (remove counts slot)) (after_is ∙ ap (λ l. before ++ l) rest)
          ∙ group_removed counts slot before group behind (inside slot within) long_before long_group
          ∙ ap (λ l. remove (groups_of counts l) slot) (sym (parted pages start count))

      -- the group is taken out
      pub taken : map on_pages (groups_of counted after) ≡ remove groups slot
      taken = ap (map on_pages) rest_are ∙ map-remove on_pages (groups_of counts pages) slot ∙ ap (λ l. remove l slot) groups_are

      pub taken_sum : sum counted ≡ length after
      taken_sum =
          let set = ap sum counted_is in
          let s = sum-remove counts slot (inside slot within) in
          let l = ap length after_is in
          let m = length-append before (drop (start + count) pages) in
          let d = length-drop (start + count) pages in
          omega (arith, set, s, l, m, d, long_before, fits, all, start_is, count_is)

      pub taken_dense : AllByRecursion IsDense (groups_of counts pages) → AllByRecursion IsDense (groups_of counted after)
      taken_dense dense = subst (AllByRecursion IsDense) (sym rest_are) (all_left IsDense (groups_of counts pages) slot dense)

  module _ (page : List Run) (after : List (List Run)) (counted : List ℕ) (after_is : after ≡ pages ++ page ∷ []) (counted_is : counted ≡ counts ++ 1 ∷ []) where
    more_are : groups_of counted after ≡ groups_of counts pages ++ (page ∷ []) ∷ []
    more_are = ap (λ l. groups_of l after) counted_is ∙ ap (groups_of (counts ++ 1 ∷ [])) after_is ∙ group_pushed counts pages (page ∷ []) all

    pub pushed : map on_pages (groups_of counted after) ≡ groups ++ page ∷ []
    pushed =
        ap (map on_pages) more_are ∙ map-append on_pages (groups_of counts pages) ((page ∷ []) ∷ [])
        ∙ ap (λ l. l ++ (page ++ []) ∷ []) groups_are ∙ ap (λ l. groups ++ l ∷ []) (append-nil page)

    pub pushed_dense : AllByRecursion IsDense (groups_of counts pages) → AllByRecursion IsDense (groups_of counted after)
    pushed_dense dense =
        subst (AllByRecursion IsDense) (sym more_are)
        (AllByRecursion-append IsDense (groups_of counts pages) ((page ∷ []) ∷ []) dense ((let e : wanting (page ∷ []) ≤ 32 = omega arith in e), tt))

  module _ (f : Run → Run) (after : List (List Run)) (after_is : after ≡ map (map f) pages) where
    maps_are : groups_of counts after ≡ map (map (map f)) (groups_of counts pages)
    maps_are = ap (groups_of counts) after_is ∙ groups-map (map f) counts pages

    pub mapped : map on_pages (groups_of counts after) ≡ map (map f) groups
    mapped = ap (map on_pages) maps_are ∙ each (groups_of counts pages) ∙ ap (map (map f)) groups_are
      where
        each : (parts : List (List (List Run))) → map on_pages (map (map (map f)) parts) ≡ map (map f) (map on_pages parts)
        each [] = refl
        each (part ∷ parts) = ap (λ l. l ∷ map on_pages (map (map (map f)) parts)) (on_pages-map f part) ∙ ap (λ l. map f (on_pages part) ∷ l) (each parts)

    pub mapped_dense : AllByRecursion IsDense (groups_of counts pages) → AllByRecursion IsDense (groups_of counts after)
    mapped_dense dense = subst (AllByRecursion IsDense) (sym maps_are) (each (groups_of counts pages) dense)
      where
        each : (parts : List (List (List Run))) → AllByRecursion IsDense parts → AllByRecursion IsDense (map (map (map f)) parts)
        each [] dense = tt
        each (part ∷ parts) dense = (omega (arith, wanting-map f part, dense.0), each parts dense.1)

-- ---- a hole that is cut

pub cut_at : (place at : ℕ) (runs : List Run) (run : Run) → at < length runs → NoneAcross place (take at runs) → is_across place (get_or runs at run) ≡ true
    → run ≡ get_or runs at run
    → insert (slice_set runs at (record run { to = place })) (at + 1) (record run { from = place }) ≡ cut place runs
cut_at place at [] run within before passes read = absurd (omega arith)
cut_at place zero (first ∷ others) run within before passes read = rw (passes, read) refl
cut_at place (suc at) (first ∷ others) run within before passes read =
    let parts = any_parts place first (take at others) before in
    let e : suc at + 1 ≡ suc (at + 1) = omega arith in
    ap (λ n. insert (first ∷ slice_set others at (record run { to = place })) n (record run { from = place })) e
    ∙ (rw parts.0 (ap (λ l. first ∷ l) (cut_at place at others run (omega arith) parts.1 passes read)))

pub cut_found : (place at : ℕ) (runs : List Run) (run : Run) → position_from (is_across place) 0 runs ≡ Some at → run ≡ get_or runs at run
    → insert (slice_set runs at (record run { to = place })) (at + 1) (record run { from = place }) ≡ cut place runs
cut_found place at runs run e read =
    let first = is_first (is_across place) at runs e in
    cut_at place at runs run first.within first.before (ap (is_across place) (sym read) ∙ first.passes run read) read

pub cut_missing : (place : ℕ) (runs : List Run) → position_from (is_across place) 0 runs ≡ None → cut place runs ≡ runs
cut_missing place runs e = cut_none place runs (none_found (is_across place) 0 runs e)

pub total-set : (groups : List (List Run)) (slot : ℕ) (runs new : List Run) → slice_get groups slot ≡ Some runs
    → total_runs (slice_set groups slot new) + length runs ≡ total_runs groups + length new
total-set [] slot runs new e = absurd (cc)
total-set (first ∷ others) zero runs new e =
    let same : first ≡ runs = same_Some first runs e in
    let a = sum-cons (length new) (map (λ runs. length runs) others) in
    let b = sum-cons (length first) (map (λ runs. length runs) others) in
    omega (arith, a, b, ap length same)
total-set (first ∷ others) (suc slot) runs new e =
    let rest = total-set others slot runs new e in
    let a = sum-cons (length first) (map (λ runs. length runs) (slice_set others slot new)) in
    let b = sum-cons (length first) (map (λ runs. length runs) others) in
    omega (arith, a, b, rest)

pub set-set : (groups : List (List Run)) (slot : ℕ) (first second : List Run) → slice_set (slice_set groups slot first) slot second ≡ slice_set groups slot second
set-set [] slot first second = refl
set-set (runs ∷ others) zero first second = refl
set-set (runs ∷ others) (suc slot) first second = ap (λ l. runs ∷ l) (set-set others slot first second)

pub sum_push : (counts : List ℕ) (count : ℕ) → sum (counts ++ count ∷ []) ≡ sum counts + count
sum_push [] count = let e = sum-cons count [] in omega arith
sum_push (first ∷ counts) count =
    let rest = sum_push counts count in
    let e = sum-cons first counts in
    let f = sum-cons first (counts ++ count ∷ []) in
    omega arith

-- ---- what holds of the pages of units, after each change

module _ (counts : List ℕ) (pages : List (List Run)) (slots room most : ℕ) (paged : ArePages counts pages slots room most) where
  pub pages_mapped : (f : Run → Run) (after : List (List Run)) (more : ℕ) → after ≡ map (map f) pages → more ≡ most → ArePages counts after slots room more
  pages_mapped f after more after_is same =
      let long = ap length after_is ∙ length-map pages (map f) in
      record {
        number = paged.number ∙ sym long;
        dense = mapped_dense counts pages _ refl paged.number f after after_is paged.dense;
        few_units = paged.few_units;
        enough = omega (arith, paged.enough, same);
        fit = (omega (arith, paged.fit.0, long, same), omega (arith, paged.fit.1, same));
      }

  pub pages_opened : (page : List Run) (after : List (List Run)) (counted : List ℕ) (more : ℕ) → length counts < slots → length pages < most
      → after ≡ pages ++ page ∷ [] → counted ≡ counts ++ 1 ∷ [] → more ≡ most → ArePages counted after slots room more
  pages_opened page after counted more free wide after_is counted_is same =
      let long = ap length after_is ∙ length_push pages page in
      record {
        number = ap sum counted_is ∙ (let e = sum_push counts 1 in omega (arith, e, paged.number, long));
        dense = pushed_dense counts pages _ refl paged.number page after counted after_is counted_is paged.dense;
        few_units = omega (arith, ap length counted_is, length_push counts 1, free);
        enough = omega (arith, paged.enough, same);
        fit = (omega (arith, wide, long, same), omega (arith, paged.fit.1, same));
      }

  module _ (slot : ℕ) (within : slot < length counts) (start count : ℕ) (start_is : start ≡ sum (take slot counts)) (count_is : count ≡ get_or counts slot 0) where
    there : slot < length (map on_pages (groups_of counts pages))
    there = omega (arith, within, counted_as counts pages _ refl paged.number)

    pub pages_changed : (new after : List (List Run)) (counted : List ℕ) (more : ℕ)
        → after ≡ take start pages ++ (new ++ drop count (drop start pages)) → counted ≡ slice_set counts slot (length new)
        → wanting new ≤ wanting (take count (drop start pages)) → length after ≤ most → more ≡ most → ArePages counted after slots room more
    pages_changed new after counted more after_is counted_is less wide same =
        record {
          number = replaced_sum counts pages _ refl paged.number slot there start count start_is count_is new after counted after_is counted_is;
          dense = replaced_dense counts pages _ refl paged.number slot there start count start_is count_is new after counted after_is counted_is paged.dense less;
          few_units = omega (arith, ap length counted_is, length-set counts slot (length new), paged.few_units);
          enough = omega (arith, paged.enough, same);
          fit = (omega (arith, wide, same), omega (arith, paged.fit.1, same));
        }

    pub pages_removed : (after : List (List Run)) (counted : List ℕ) (more : ℕ) → after ≡ take start pages ++ drop (start + count) pages
        → counted ≡ remove counts slot → more ≡ most → ArePages counted after slots room more
    pages_removed after counted more after_is counted_is same =
        let all = taken_sum counts pages _ refl paged.number slot there start count start_is count_is after counted after_is counted_is in
        let s = sum-remove counts slot within in
        record {
          number = all;
          dense = taken_dense counts pages _ refl paged.number slot there start count start_is count_is after counted after_is counted_is paged.dense;
          few_units = omega (arith, ap length counted_is, length-remove counts slot within, paged.few_units);
          enough = omega (arith, paged.enough, same);
          fit = (omega (arith, all, ap sum counted_is, s, paged.number, paged.fit.0, same), omega (arith, paged.fit.1, same));
        }

  pub pages_cleared : (after : List (List Run)) (counted : List ℕ) (more : ℕ) → length after ≡ 0 → counted ≡ [] → more ≡ most → ArePages counted after slots room more
  pages_cleared after counted more none counted_is same = record {
    number = ap sum counted_is ∙ sym none;
    dense = subst (λ l. AllByRecursion IsDense (groups_of l after)) (sym counted_is) tt;
    few_units = omega (arith, ap length counted_is);
    enough = omega (arith, paged.enough, same);
    fit = (omega (arith, none), omega (arith, paged.fit.1, same));
  }
