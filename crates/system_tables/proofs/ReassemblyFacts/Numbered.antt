-- Pages by their numbers.
use Rattle.std.proofs.Common.{◌≡◌, ◌≢◌, ℕ, zero, suc, ◌+◌, ◌<◌, ◌≤◌, ◌==◌, if◌then◌else◌, List, [], ◌∷◌, ◌++◌, Some, length, map, take, drop, get_or, inl, inr, refl, sym, ap, subst, ◌∙◌, arith}
use Rattle.std.specs.Prelude.{slice_get, slice_set}
use Rattle.std.specs.List.{AllByRecursion, insert, remove}
use Rattle.std.proofs.lemmas.Bool.{cases_Bool, cases_eq}
use Rattle.std.proofs.lemmas.List.{drop-map, get_or-set_other, get_or-set_same, get_or_append_left, get_or_default, length-map, length-set, length_push, map-append, take-append-drop, take-map}
use Rattle.std.proofs.lemmas.List.Edits.{insert_end, length-insert, length-remove}
use Rattle.std.proofs.lemmas.Option.{same_Some, slice_get_within}
use Rattle.pdus.proofs.ClnpBase.Choices.{equal_is, is_equal}
use Rattle.pdus.proofs.ClnpBase.Lists.{AllByRecursion-front, AllByRecursion-implies, AllByRecursion-push, AllByRecursion-put, AllByRecursion-slice_get}
use Rattle.system_tables.specs.declared.reassembly.runs.Run.{Run}
use Rattle.system_tables.proofs.ReassemblyFacts.Groups.{all_left}
use Rattle.system_tables.specs.Reassembly.Pages.{AreKept, IsTaken, numbered, times}

-- ---- how many times a number is in a list

abbrev one : ℕ → ℕ → ℕ
one number other = if number == other then 1 else 0

pub times-append : (number : ℕ) (xs ys : List ℕ) → times number (xs ++ ys) ≡ times number xs + times number ys
times-append number [] ys = omega arith
times-append number (x ∷ xs) ys = omega (arith, times-append number xs ys)

pub times-insert : (number at x : ℕ) (xs : List ℕ) → times number (insert xs at x) ≡ one number x + times number xs
times-insert number at x xs =
    omega (
      arith,
      times-append number (take at xs) (x ∷ drop at xs),
      times-append number (take at xs) (drop at xs),
      ap (times number) (take-append-drop at xs),
    )

pub times-push : (number x : ℕ) (xs : List ℕ) → times number (xs ++ x ∷ []) ≡ one number x + times number xs
times-push number x xs = omega (arith, times-append number xs (x ∷ []))

pub times-remove : (number at x : ℕ) (xs : List ℕ) → slice_get xs at ≡ Some x → one number x + times number (remove xs at) ≡ times number xs
times-remove number at x [] e = absurd (cc)
times-remove number zero x (first ∷ xs) e = rw (same_Some first x e) refl
times-remove number (suc at) x (first ∷ xs) e = omega (arith, times-remove number at x xs e)

pub one_same : (number : ℕ) → one number number ≡ 1
one_same number = rw (equal_is number number refl) refl

pub one_other : (number other : ℕ) → number ≢ other → one number other ≡ 0
one_other number other apart =
    elim (cases_Bool (number == other)) [
      | inl t ↦ absurd (apart (is_equal number other t))
      | inr f ↦ rw f refl
    ]

pub times_there : (at x : ℕ) (xs : List ℕ) → slice_get xs at ≡ Some x → 1 ≤ times x xs
times_there at x xs e = omega (arith, times-remove x at x xs e, one_same x)

pub times_none : (made number : ℕ) (xs : List ℕ) → AllByRecursion (λ x. x < made) xs → made ≤ number → times number xs ≡ 0
times_none made number [] all more = refl
times_none made number (x ∷ xs) all more =
    let apart : number ≢ x = (λ e. absurd (omega (arith, e, all.0, more))) in
    omega (arith, one_other number x apart, times_none made number xs all.1 more)

-- ---- other pages by numbers

pub numbered-same : (made after : List (List Run)) (numbers : List ℕ) → ((number : ℕ) → 1 ≤ times number numbers → get_or after number [] ≡ get_or made number [])
    → numbered after numbers ≡ numbered made numbers
numbered-same made after [] same = refl
numbered-same made after (number ∷ numbers) same =
    ap (λ p. p ∷ numbered after numbers) (same number (omega (arith, one_same number)))
    ∙ ap (λ l. get_or made number [] ∷ l) (numbered-same made after numbers (λ n there. same n (omega (arith, there))))

-- a page that isn't one of them
pub numbered-set_other : (made : List (List Run)) (numbers : List ℕ) (number : ℕ) (page : List Run) → times number numbers ≡ 0
    → numbered (slice_set made number page) numbers ≡ numbered made numbers
numbered-set_other made numbers number page none =
    numbered-same made (slice_set made number page) numbers (λ n there. get_or-set_other made number n page [] (λ e. absurd (omega (arith, there, none, ap (λ k. times k numbers) e))))

-- a page that is one of them
pub numbered-set : (made : List (List Run)) (numbers : List ℕ) (at number : ℕ) (page : List Run) → slice_get numbers at ≡ Some number
    → times number numbers ≤ 1 → number < length made → numbered (slice_set made number page) numbers ≡ slice_set (numbered made numbers) at page
numbered-set made [] at number page e once within = absurd (cc)
numbered-set made (first ∷ numbers) zero number page e once within =
    let same : first ≡ number = same_Some first number e in
    let none : times number numbers ≡ 0 = omega (arith, once, one_same number, ap (one number) same) in
    ap (λ n. get_or (slice_set made number page) n [] ∷ numbered (slice_set made number page) numbers) same
    ∙ ap (λ p. p ∷ numbered (slice_set made number page) numbers) (get_or-set_same made number page [] within)
    ∙ ap (λ l. page ∷ l) (numbered-set_other made numbers number page none)
numbered-set made (first ∷ numbers) (suc at) number page e once within =
    let there = times_there at number numbers e in
    let apart : first ≢ number = (λ same. absurd (omega (arith, once, there, one_same number, ap (one number) same))) in
    ap (λ p. p ∷ numbered (slice_set made number page) numbers) (get_or-set_other made number first page [] apart)
    ∙ ap (λ l. get_or made first [] ∷ l) (numbered-set made numbers at number page e (omega (arith, once)) within)

-- a page more
pub numbered-more : (made : List (List Run)) (page : List Run) (numbers : List ℕ) → AllByRecursion (λ n. n < length made) numbers
    → numbered (made ++ page ∷ []) numbers ≡ numbered made numbers
numbered-more made page [] all = refl
numbered-more made page (number ∷ numbers) all =
    ap (λ p. p ∷ numbered (made ++ page ∷ []) numbers) (get_or_append_left made (page ∷ []) [] number all.0)
    ∙ ap (λ l. get_or made number [] ∷ l) (numbered-more made page numbers all.1)

map-insert : {X Y : Type 0} (f : X → Y) (xs : List X) (at : ℕ) (x : X) → map f (insert xs at x) ≡ insert (map f xs) at (f x)
map-insert f xs at x =
    map-append f (take at xs) (x ∷ drop at xs)
    ∙ ap (λ l. l ++ f x ∷ map f (drop at xs)) (sym (take-map f at xs))
    ∙ ap (λ l. take at (map f xs) ++ f x ∷ l) (sym (drop-map f at xs))

pub length-numbered : (made : List (List Run)) (numbers : List ℕ) (items : List (List Run)) → numbered made numbers ≡ items → length numbers ≡ length items
length-numbered made numbers items is = sym (length-map numbers (λ n. get_or made n [])) ∙ ap length is

pub part_numbered : (made : List (List Run)) (numbers : List ℕ) (start count : ℕ) → numbered made (take count (drop start numbers)) ≡ take count (drop start (numbered made numbers))
part_numbered made numbers start count =
    sym (take-map (λ n. get_or made n []) count (drop start numbers)) ∙ ap (take count) (sym (drop-map (λ n. get_or made n []) start numbers))

pub page_numbered : (made : List (List Run)) (numbers : List ℕ) (at : ℕ) (page : List Run) → at < length numbers → AllByRecursion (λ n. n < length made) numbers
    → slice_get (numbered made numbers) at ≡ Some (get_or made (get_or numbers at 0) page)
page_numbered made [] at page within all = absurd (omega arith)
page_numbered made (number ∷ numbers) zero page within all = ap (λ p. Some p) (get_or_default made number [] page all.0)
page_numbered made (number ∷ numbers) (suc at) page within all = page_numbered made numbers at page (omega arith) all.1

pub read_numbered : (made : List (List Run)) (numbers : List ℕ) (at number : ℕ) (page : List Run) (items : List (List Run)) → slice_get numbers at ≡ Some number
    → number < length made → page ≡ get_or made number page → numbered made numbers ≡ items → page ≡ get_or items at []
read_numbered made numbers at number page items there within read is =
    read ∙ get_or_default made number page [] within ∙ sym (each numbers at there) ∙ ap (λ l. get_or l at []) is
  where
    each : (others : List ℕ) (k : ℕ) → slice_get others k ≡ Some number → get_or (numbered made others) k [] ≡ get_or made number []
    each [] k e = absurd (cc)
    each (first ∷ others) zero e = ap (λ n. get_or made n []) (same_Some first number e)
    each (first ∷ others) (suc k) e = each others k e

-- ---- the pages that were made, each in the list or free

module _ (order free : List ℕ) (made : List (List Run)) (most : ℕ) (kept : AreKept order free (length made) most) where
  module _ (at number : ℕ) (there : slice_get order at ≡ Some number) where
    pub made_there : number < length made
    made_there = AllByRecursion-slice_get (λ n. n < length made) order at number there kept.below

    pub changed_pages : (page : List Run) → numbered (slice_set made number page) order ≡ slice_set (numbered made order) at page
    changed_pages page = numbered-set made order at number page there (omega (arith, kept.once number)) made_there

    pub kept_set : (page : List Run) → AreKept order free (length (slice_set made number page)) most
    kept_set page = subst (λ n. AreKept order free n most) (sym (length-set made number page)) kept

    removed : AreKept (remove order at) (free ++ number ∷ []) (length made) most
    removed = record {
      once = λ n. omega (arith, kept.once n, times-remove n at number order there, times-push n number free);
      below = all_left (λ n. n < length made) order at kept.below;
      free_below = AllByRecursion-push (λ n. n < length made) free number kept.free_below made_there;
      all = omega (arith, kept.all, length-remove order at (slice_get_within order at number there), length_push free number);
      few = kept.few;
    }

    pub removed_kept : (order_after free_after : List ℕ) → order_after ≡ remove order at → free_after ≡ free ++ number ∷ []
        → AreKept order_after free_after (length made) most
    removed_kept order_after free_after order_is free_is =
        subst (λ o. AreKept o free_after (length made) most) (sym order_is) (subst (λ f. AreKept (remove order at) f (length made) most) (sym free_is) removed)

  module _ (number : ℕ) (after : List (List Run)) (free_after : List ℕ) (taken : IsTaken number made free after free_after) where
    last_below : (numbers : List ℕ) → AllByRecursion (λ n. n < length made) (numbers ++ number ∷ []) → number < length made
    last_below [] all = all.0
    last_below (first ∷ numbers) all = last_below numbers all.1

    pub taken_below : number < length after
    taken_below = elim taken [
      | inl is ↦ omega (arith, ap length is.0, last_below free_after (subst (AllByRecursion (λ n. n < length made)) is.1 kept.free_below))
      | inr is ↦ omega (arith, ap length is.0, length_push made [], is.1.0)
    ]

    taken_none : times number order ≡ 0
    taken_none = elim taken [
      | inl is ↦ omega (arith, kept.once number, ap (times number) is.1, times-push number number free_after, one_same number)
      | inr is ↦ times_none (length made) number order kept.below (omega (arith, is.1.0))
    ]

    taken_pages : numbered after order ≡ numbered made order
    taken_pages = elim taken [
      | inl is ↦ ap (λ m. numbered m order) is.0
      | inr is ↦ ap (λ m. numbered m order) is.0 ∙ numbered-more made [] order kept.below
    ]

    module _ (at : ℕ) (within : at ≤ length order) where
      pub put_pages : (page : List Run) → numbered (slice_set after number page) (insert order at number) ≡ insert (numbered made order) at page
      put_pages page =
          let store = slice_set after number page in
          map-insert (λ n. get_or store n []) order at number
          ∙ ap (λ l. insert l at (get_or store number [])) (numbered-set_other after order number page taken_none ∙ taken_pages)
          ∙ ap (insert (numbered made order) at) (get_or-set_same after number page [] taken_below)

      put_below : (count : ℕ) → length made ≤ count → number < count → AllByRecursion (λ n. n < count) (insert order at number)
      put_below count more below =
          AllByRecursion-put (λ n. n < count) (take at order) number (drop at order) below
          (subst (AllByRecursion (λ n. n < count)) (sym (take-append-drop at order))
          (AllByRecursion-implies (λ n. n < length made) (λ n. n < count) (λ n h. omega (arith, h, more)) order kept.below))

      once_more : (n : ℕ) → one n number + times n order ≤ 1
      once_more n = elim (cases_eq n number) [
        | inl same ↦ omega (arith, ap (λ k. one k number) same, one_same number, ap (λ k. times k order) same, taken_none)
        | inr other ↦ omega (arith, one_other n number other, kept.once n)
      ]

      put : (count : ℕ) → count ≡ length after → length order < most → AreKept (insert order at number) free_after count most
      put count is few = elim taken [
        | inl e ↦ record {
          once = λ n. omega (arith, kept.once n, times-insert n at number order, ap (times n) e.1, times-push n number free_after);
          below = put_below count (omega (arith, is, ap length e.0)) (omega (arith, taken_below, is));
          free_below = AllByRecursion-implies (λ n. n < length made) (λ n. n < count) (λ n h. omega (arith, h, is, ap length e.0)) free_after
              (AllByRecursion-front (λ n. n < length made) free_after (number ∷ []) (subst (AllByRecursion (λ n. n < length made)) e.1 kept.free_below));
          all = omega (arith, is, ap length e.0, ap length e.1, length_push free_after number, length-insert order at number within, kept.all);
          few = omega (arith, is, ap length e.0, kept.few);
        }
        | inr e ↦ record {
          once = λ n. omega (arith, times-insert n at number order, once_more n, ap (times n) e.1.1.1);
          below = put_below count (omega (arith, is, ap length e.0, length_push made [])) (omega (arith, taken_below, is));
          free_below = subst (AllByRecursion (λ n. n < count)) (sym e.1.1.1) tt;
          all = omega (arith, is, ap length e.0, length_push made [], ap length e.1.1.0, ap length e.1.1.1, length-insert order at number within, kept.all);
          few = omega (arith, is, ap length e.0, length_push made [], ap length e.1.1.0, few, kept.all);
        }
      ]

      pub put_kept : (count : ℕ) (order_after : List ℕ) → count ≡ length after → length order < most → order_after ≡ insert order at number
          → AreKept order_after free_after count most
      put_kept count order_after is few order_is = subst (λ o. AreKept o free_after count most) (sym order_is) (put count is few)

    pub push_pages : (page : List Run) → numbered (slice_set after number page) (order ++ number ∷ []) ≡ numbered made order ++ page ∷ []
    push_pages page =
        let long = length-map order (λ n. get_or made n []) in
        ap (numbered (slice_set after number page)) (sym (insert_end order number))
        ∙ put_pages (length order) (omega arith) page
        ∙ ap (λ n. insert (numbered made order) n page) (sym long)
        ∙ insert_end (numbered made order) page

    pub push_kept : (count : ℕ) (order_after : List ℕ) → count ≡ length after → length order < most → order_after ≡ order ++ number ∷ []
        → AreKept order_after free_after count most
    push_kept count order_after is few order_is = put_kept (length order) (omega arith) count order_after is few (order_is ∙ sym (insert_end order number))
