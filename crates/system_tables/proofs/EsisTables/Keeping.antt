-- What a table keeps after an entry is put in or taken out.
use Rattle.std.proofs.Common.{◌≡◌, ℕ, zero, suc, ◌<◌, ◌≤◌, min, Bool, true, false, ◌||◌, not, List, [], ◌∷◌, ◌++◌, Some, refl, sym, ap, subst, ◌∙◌, inl, inr, arith, slice_get, slice_set, insert, remove, take, drop}
use Rattle.std.proofs.lemmas.Bool.{cases_Bool, cond_both, cond-true, or_parts, or_from, or_left, or_right}
use Rattle.std.proofs.lemmas.List.{take-append-drop}
use Rattle.std.specs.List.{AllByRecursion, filter, find, list_any}
use Rattle.std.specs.Str.{bytes_eq}
use Rattle.system_tables.specs.declared.esis_tables.table.Entry.{Entry}
use Rattle.system_tables.specs.EsisTables.Fact.{Fact, has_key}
use Rattle.system_tables.specs.EsisTables.Keeps.{Keeps, entries_of, AreDistinct, kept_with, without}
use Rattle.system_tables.specs.EsisTables.Order.{in_order, put_in, IsRising}
use Rattle.system_tables.specs.EsisTables.State.{AreBounded, TableState, IsAt, IsGap, entry_for, key_in, is_of}
use Rattle.pdus.proofs.ClnpBase.SameOctets.{other-back, same-itself}
use Rattle.pdus.proofs.ClnpBase.Lists.{AllByRecursion-both, AllByRecursion-implies, AllByRecursion-push, AllByRecursion-put}
use Rattle.system_tables.proofs.EsisTables.Numbers.{differ-entries, entries_of-push, entries_of-same, entries_of-without, numbered-filter, numbered-push, numbered-same, of_facts, others_same, with_number}
use Rattle.system_tables.proofs.EsisTables.Places.{remove_is, find_is, insert_is, none_has, set_is, Splits}
use Rattle.system_tables.proofs.EsisTables.Rising.{NoneHas, all_filter, filter_all}
use Rattle.system_tables.proofs.EsisTables.Sorting.{all_in_order-back, in_order-rising, filter-in_order, in_order-push, list_any-in_order, find-in_order}

pub any_none : {X : Type 0} (p : X → Bool) (xs : List X) → list_any p xs ≡ false → AllByRecursion (λ x. p x ≡ false) xs
any_none p [] none = tt
any_none p (x ∷ xs) none = let parts = or_parts (p x) (list_any p xs) none in (parts.0, any_none p xs parts.1)

pub any_without : (key : List ℕ) (kept : List Fact) → list_any (has_key key) (without key kept) ≡ false
any_without key [] = refl
any_without key (fact ∷ later) =
    elim (cases_Bool (has_key key fact)) [
      | inl t ↦ rw t (any_without key later)
      | inr f ↦ rw f (or_from (has_key key fact) (list_any (has_key key) (without key later)) f (any_without key later))
    ]

pub rising_of : (table : TableState) (kept : List Fact) → Keeps table kept → IsRising key_in table.entries
rising_of table kept keeps =
    subst (IsRising key_in) (sym keeps.entries) (in_order-rising key_in (entries_of keeps.number kept) (differ-entries keeps.number kept keeps.distinct))

pub distinct-without : (key : List ℕ) (kept : List Fact) → AreDistinct kept → AreDistinct (without key kept)
distinct-without key [] distinct = tt
distinct-without key (fact ∷ later) distinct =
    cond_both (not (has_key key fact)) (fact ∷ without key later) (without key later) AreDistinct
    (λ t. (all_filter (λ other. has_key fact.key other ≡ false) (λ other. not (has_key key other)) later distinct.0, distinct-without key later distinct.1))
    (λ f. distinct-without key later distinct.1)

pub distinct-push : (kept : List Fact) (fact : Fact) → AreDistinct kept → list_any (has_key fact.key) kept ≡ false → AreDistinct (kept ++ fact ∷ [])
distinct-push [] fact distinct new = (tt, tt)
distinct-push (first ∷ later) fact distinct new =
    let parts = or_parts (has_key fact.key first) (list_any (has_key fact.key) later) new in
    (AllByRecursion-push (λ other. has_key first.key other ≡ false) later fact distinct.0 (other-back first.key fact.key parts.0), distinct-push later fact distinct.1 parts.1)

-- a test of facts that their entries pass alike
pub any-entries : (p : Entry → Bool) (q : Fact → Bool) → ((fact : Fact) (n : ℕ) → p (entry_for fact n) ≡ q fact)
    → (number : List ℕ → ℕ) (kept : List Fact) → list_any p (entries_of number kept) ≡ list_any q kept
any-entries p q same number [] = refl
any-entries p q same number (fact ∷ later) =
    rw (same fact (number fact.key)) (ap (λ b. q fact || b) (any-entries p q same number later))

pub any_kept : (p : Entry → Bool) (q : Fact → Bool) → ((fact : Fact) (n : ℕ) → p (entry_for fact n) ≡ q fact)
    → (table : TableState) (kept : List Fact) → Keeps table kept → list_any p table.entries ≡ list_any q kept
any_kept p q same table kept keeps =
    ap (list_any p) keeps.entries ∙ list_any-in_order key_in p (entries_of keeps.number kept) ∙ any-entries p q same keeps.number kept

pub found_any : {X : Type 0} (p : X → Bool) (xs : List X) (x : X) → find p xs ≡ Some x → list_any p xs ≡ true
found_any p [] x found = absurd (cc)
found_any p (y ∷ ys) x found =
    elim (cases_Bool (p y)) [
      | inl t ↦ or_left (p y) (list_any p ys) t
      | inr f ↦ or_right (p y) (list_any p ys) (found_any p ys x (rw f at found))
    ]

none_any : (key : List ℕ) (entries : List Entry) → NoneHas key_in key entries → list_any (is_of key) entries ≡ false
none_any key [] none = refl
none_any key (entry ∷ rest) none = rw none.0 (none_any key rest none.1)

pub splits_of : (entries : List Entry) (key : List ℕ) (at : ℕ) → IsGap entries key at → Splits key_in key entries at
splits_of entries key at gap = record { within = gap.within; before = gap.before; behind = gap.behind }

module _ (table : TableState) (kept : List Fact) (keeps : Keeps table kept) where
  pub known_at : (key : List ℕ) (at : ℕ) → IsAt table.entries key at → list_any (has_key key) kept ≡ true
  known_at key at place =
      sym (any_kept (is_of key) (has_key key) (λ fact n. refl) table kept keeps)
      ∙ found_any (is_of key) table.entries place.entry (find_is key_in table.entries at place.entry key (rising_of table kept keeps) place.stands_at place.is_its)

  pub new_at : (key : List ℕ) (at : ℕ) → IsGap table.entries key at → list_any (has_key key) kept ≡ false
  new_at key at gap =
      sym (any_kept (is_of key) (has_key key) (λ fact n. refl) table kept keeps)
      ∙ none_any key table.entries (none_has key_in table.entries at key (splits_of table.entries key at gap))

  pub found_in : (key : List ℕ) → find (is_of key) table.entries ≡ find (is_of key) (entries_of keeps.number kept)
  found_in key =
      ap (find (is_of key)) keeps.entries
      ∙ find-in_order key_in key (entries_of keeps.number kept) (differ-entries keeps.number kept keeps.distinct)

  -- the entries of the other keys
  others_in : (key : List ℕ) → filter (λ e. not (is_of key e)) table.entries ≡ in_order key_in (entries_of keeps.number (without key kept))
  others_in key =
      ap (filter (λ e. not (is_of key e))) keeps.entries
      ∙ filter-in_order key_in (λ e. not (is_of key e)) (entries_of keeps.number kept) (differ-entries keeps.number kept keeps.distinct)
      ∙ ap (in_order key_in) (sym (entries_of-without keeps.number key kept))

  -- the entry of a key is taken out
  pub taken_kept : (new : TableState) (key : List ℕ) (at : ℕ) (entry : Entry) → slice_get table.entries at ≡ Some entry → is_of key entry ≡ true
      → new.entries ≡ remove table.entries at → Keeps new (without key kept)
  taken_kept new key at entry there its is = record {
    number = keeps.number;
    entries = is ∙ remove_is key_in table.entries at entry key (rising_of table kept keeps) there its ∙ others_in key;
    numbered = numbered-filter keeps.number (λ fact. not (has_key key fact)) kept keeps.numbered;
    distinct = distinct-without key kept keeps.distinct;
  }

  -- an entry is put in beside those of the other keys, as the latest
  module _ (new : TableState) (fact : Fact) (n : ℕ) (above : AllByRecursion (λ (entry : Entry). entry.number < n) table.entries) where
    abbrev others : List Fact
    others = without fact.key kept

    abbrev numbers : List ℕ → ℕ
    numbers = with_number fact.key n keeps.number

    other_keys : AllByRecursion (λ other. has_key fact.key other ≡ false) others
    other_keys = any_none (has_key fact.key) others (any_without fact.key kept)

    same : AllByRecursion (λ other. keeps.number other.key ≡ numbers other.key) others
    same = others_same fact.key n keeps.number others other_keys

    own : numbers fact.key ≡ n
    own = cond-true (bytes_eq fact.key fact.key) n (keeps.number fact.key) (same-itself fact.key)

    below : AllByRecursion (λ other. numbers other.key < numbers fact.key) others
    below =
        let all = of_facts keeps.number (λ m. m < n) kept
        (all_in_order-back key_in (λ (entry : Entry). entry.number < n) (entries_of keeps.number kept) (subst (AllByRecursion (λ (entry : Entry). entry.number < n)) keeps.entries above)) in
        AllByRecursion-both (λ other. keeps.number other.key < n) (λ other. keeps.number other.key ≡ numbers other.key) (λ other. numbers other.key < numbers fact.key)
        (λ other less is. omega (arith, less, is, own)) others (all_filter (λ other. keeps.number other.key < n) (λ other. not (has_key fact.key other)) kept all) same

    noted_in : new.entries ≡ put_in key_in (entry_for fact n) (filter (λ e. not (is_of fact.key e)) table.entries) → Keeps new (kept_with fact kept)
    noted_in is = record {
      number = numbers;
      entries = is ∙ ap (put_in key_in (entry_for fact n)) (others_in fact.key ∙ ap (in_order key_in) (entries_of-same keeps.number numbers others same))
          ∙ sym (in_order-push key_in (entries_of numbers others) (entry_for fact n))
          ∙ ap (λ m. in_order key_in (entries_of numbers others ++ entry_for fact m ∷ [])) (sym own)
          ∙ ap (in_order key_in) (sym (entries_of-push numbers others fact));
      numbered = numbered-push numbers others fact (numbered-same keeps.number numbers others same (numbered-filter keeps.number (λ other. not (has_key fact.key other)) kept keeps.numbered)) below;
      distinct = distinct-push others fact (distinct-without fact.key kept keeps.distinct) (any_without fact.key kept);
    }

    -- where its key had one, that one is written over
    pub over_kept : (at : ℕ) → IsAt table.entries fact.key at → new.entries ≡ slice_set table.entries at (entry_for fact n) → Keeps new (kept_with fact kept)
    over_kept at place is =
        noted_in (is ∙ set_is key_in table.entries at place.entry (entry_for fact n) fact.key (rising_of table kept keeps) place.stands_at place.is_its refl)

    -- where it had none, it goes into the gap
    pub put_kept : (at : ℕ) → IsGap table.entries fact.key at → new.entries ≡ insert table.entries at (entry_for fact n) → Keeps new (kept_with fact kept)
    put_kept at gap is =
        noted_in (is ∙ insert_is key_in table.entries at (entry_for fact n) (splits_of table.entries fact.key at gap)
        ∙ ap (put_in key_in (entry_for fact n)) (sym (no_others table.entries (none_has key_in table.entries at fact.key (splits_of table.entries fact.key at gap)))))
      where
        no_others : (entries : List Entry) → NoneHas key_in fact.key entries → filter (λ e. not (is_of fact.key e)) entries ≡ entries
        no_others entries none =
            filter_all (λ e. not (is_of fact.key e)) entries (AllByRecursion-implies (λ e. is_of fact.key e ≡ false) (λ e. not (is_of fact.key e) ≡ true) (λ e h. ap not h) entries none)

-- ---- bounds of the ends and of the numbers

pub all_insert : {X : Type 0} (P : X → Type 0) (xs : List X) (i : ℕ) (x : X) → P x → AllByRecursion P xs → AllByRecursion P (insert xs i x)
all_insert P xs i x one all =
    AllByRecursion-put P (take i xs) x (drop i xs) one (subst (AllByRecursion P) (sym (take-append-drop i xs)) all)

pub all_remove : {X : Type 0} (P : X → Type 0) (xs : List X) (i : ℕ) → AllByRecursion P xs → AllByRecursion P (remove xs i)
all_remove P [] zero all = tt
all_remove P [] (suc i) all = tt
all_remove P (x ∷ xs) zero all = all.1
all_remove P (x ∷ xs) (suc i) all = (all.0, all_remove P xs i all.1)

all_set : {X : Type 0} (P : X → Type 0) (xs : List X) (i : ℕ) (x : X) → P x → AllByRecursion P xs → AllByRecursion P (slice_set xs i x)
all_set P [] i x one all = tt
all_set P (y ∷ ys) zero x one all = (one, all.1)
all_set P (y ∷ ys) (suc i) x one all = (all.0, all_set P ys i x one all.1)

pub bounded_put : (soonest last sooner : ℕ) (entries : List Entry) (at : ℕ) (entry : Entry) → sooner ≡ min soonest entry.until
    → AreBounded soonest last entries → AllByRecursion (λ (other : Entry). other.number < entry.number) entries
    → AreBounded sooner entry.number (insert entries at entry)
bounded_put soonest last sooner entries at entry is bounded above = record {
  end = all_insert (λ (other : Entry). sooner ≤ other.until) entries at entry (omega (arith, is))
      (AllByRecursion-implies (λ (other : Entry). soonest ≤ other.until) (λ (other : Entry). sooner ≤ other.until) (λ other h. omega (arith, h, is)) entries bounded.end);
  heard = all_insert (λ (other : Entry). other.number ≤ entry.number) entries at entry (omega arith)
      (AllByRecursion-implies (λ (other : Entry). other.number < entry.number) (λ (other : Entry). other.number ≤ entry.number) (λ other h. omega (arith, h)) entries above);
}

pub bounded_anew : (soonest number : ℕ) (entries : List Entry) → AllByRecursion (λ (entry : Entry). soonest ≤ entry.until) entries
    → AllByRecursion (λ (entry : Entry). entry.number < number) entries → AreBounded soonest number entries
bounded_anew soonest number entries ends above = record {
  end = ends;
  heard = AllByRecursion-implies (λ (entry : Entry). entry.number < number) (λ (entry : Entry). entry.number ≤ number) (λ entry h. omega (arith, h)) entries above;
}

pub bounded_set : (soonest last sooner : ℕ) (entries : List Entry) (at : ℕ) (entry : Entry) → sooner ≡ min soonest entry.until
    → AreBounded soonest last entries → AllByRecursion (λ (other : Entry). other.number < entry.number) entries
    → AreBounded sooner entry.number (slice_set entries at entry)
bounded_set soonest last sooner entries at entry is bounded above = record {
  end = all_set (λ (other : Entry). sooner ≤ other.until) entries at entry (omega (arith, is))
      (AllByRecursion-implies (λ (other : Entry). soonest ≤ other.until) (λ (other : Entry). sooner ≤ other.until) (λ other h. omega (arith, h, is)) entries bounded.end);
  heard = all_set (λ (other : Entry). other.number ≤ entry.number) entries at entry (omega arith)
      (AllByRecursion-implies (λ (other : Entry). other.number < entry.number) (λ (other : Entry). other.number ≤ entry.number) (λ other h. omega (arith, h)) entries above);
}

pub bounded_taken : (soonest last : ℕ) (entries : List Entry) (at : ℕ) → AreBounded soonest last entries → AreBounded soonest last (remove entries at)
bounded_taken soonest last entries at bounded = record {
  end = all_remove (λ (other : Entry). soonest ≤ other.until) entries at bounded.end;
  heard = all_remove (λ (other : Entry). other.number ≤ last) entries at bounded.heard;
}
