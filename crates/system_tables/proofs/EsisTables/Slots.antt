-- What stands in the slots of a list, where one comes, goes or is filled anew.
use Rattle.std.proofs.Common.{◌≡◌, ◌≢◌, ◌∙◌, sym, ap, refl, subst, ℕ, zero, suc, ◌<◌, ◌≤◌, true, List, [], ◌∷◌, ◌++◌, length, length-append, Option, Some, None, is_some, arith}
use Rattle.std.specs.Prelude.{slice_get, slice_index_or, slice_set}
use Rattle.std.specs.List.{AllByRecursion, cons_option, filter_map, insert, remove}
use Rattle.std.specs.Option.{option_map}
use Rattle.std.proofs.lemmas.Bool.{false≢true}
use Rattle.std.proofs.lemmas.List.{append_assoc, length-set}
use Rattle.std.proofs.lemmas.List.Edits.{insert-append_left, length-insert, length-remove, remove-append_left}
use Rattle.std.proofs.lemmas.Option.{none-some, same_Some, slice_get_read, slice_get_within}
use Rattle.system_tables.specs.declared.esis_tables.table.Entry.{Entry}
use Rattle.system_tables.specs.EsisTables.Slots.{AreApart, AreTaken, entries_in}
use Rattle.system_tables.specs.EsisTables.State.{TableState, key_in}
use Rattle.system_tables.proofs.EsisTables.Keeping.{all_insert, all_remove}
use Rattle.pdus.proofs.ClnpBase.Lists.{AllByRecursion-front, AllByRecursion-implies, AllByRecursion-push, AllByRecursion-slice_get, slice_get-set, slice_get-set_other, slice_get_some}

-- ---- lists one behind the other

all_last : {X : Type 0} (P : X → Type 0) (xs : List X) (x : X) → AllByRecursion P (xs ++ x ∷ []) → P x
all_last P [] x all = all.0
all_last P (first ∷ others) x all = all_last P others x all.1

all_back : {X : Type 0} (P : X → Type 0) (xs ys : List X) → AllByRecursion P (xs ++ ys) → AllByRecursion P ys
all_back P [] ys all = all
all_back P (x ∷ xs) ys all = all_back P xs ys all.1

at_front : {X : Type 0} (xs ys : List X) (place : ℕ) (x : X) → slice_get xs place ≡ Some x → slice_get (xs ++ ys) place ≡ Some x
at_front [] ys place x e = absurd (none-some x e)
at_front (first ∷ others) ys zero x e = e
at_front (first ∷ others) ys (suc place) x e = at_front others ys place x e

apart_front : (slots others : List ℕ) → AreApart (slots ++ others) → AreApart slots
apart_front [] others apart = tt
apart_front (first ∷ slots) others apart =
    (AllByRecursion-front (λ other. other ≢ first) slots others apart.0, apart_front slots others apart.1)

-- ---- slots of which none stands twice

AreApart-insert : (slots : List ℕ) (place slot : ℕ) → place ≤ length slots → AreApart slots
    → AllByRecursion (λ other. other ≢ slot) slots → AreApart (insert slots place slot)
AreApart-insert [] zero slot within apart differ = (tt, tt)
AreApart-insert [] (suc place) slot within apart differ = absurd (omega (arith, within))
AreApart-insert (first ∷ others) zero slot within apart differ = (differ, apart)
AreApart-insert (first ∷ others) (suc place) slot within apart differ = (
  all_insert (λ other. other ≢ first) others place slot (λ same. differ.0 (sym same)) apart.0,
  AreApart-insert others place slot (omega (arith, within)) apart.1 differ.1,
)

AreApart-remove : (slots : List ℕ) (place : ℕ) → place < length slots → AreApart slots → AreApart (remove slots place)
AreApart-remove [] place within apart = absurd (omega (arith, within))
AreApart-remove (first ∷ others) zero within apart = apart.1
AreApart-remove (first ∷ others) (suc place) within apart =
    (all_remove (λ other. other ≢ first) others place apart.0, AreApart-remove others place (omega (arith, within)) apart.1)

-- one that is taken out stands nowhere else
others_differ : (slots : List ℕ) (place slot : ℕ) → AreApart slots → slice_get slots place ≡ Some slot
    → AllByRecursion (λ other. other ≢ slot) (remove slots place)
others_differ [] place slot apart e = absurd (none-some slot e)
others_differ (first ∷ others) zero slot apart e =
    subst (λ (s : ℕ). AllByRecursion (λ other. other ≢ s) others) (same_Some first slot e) apart.0
others_differ (first ∷ others) (suc place) slot apart e = (
  λ same. AllByRecursion-slice_get (λ other. other ≢ first) others place slot e apart.0 (sym same),
  others_differ others place slot apart.1 e,
)

-- another one behind them
apart_push : (slots : List ℕ) (slot : ℕ) → AreApart slots → AllByRecursion (λ other. other ≢ slot) slots
    → AreApart (slots ++ slot ∷ [])
apart_push [] slot apart differ = (tt, tt)
apart_push (first ∷ others) slot apart differ = (
  AllByRecursion-push (λ other. other ≢ first) others slot apart.0 (λ same. differ.0 (sym same)),
  apart_push others slot apart.1 differ.1,
)

-- the last comes to the front
last_moved : (slots : List ℕ) (slot : ℕ) → AreApart (slots ++ slot ∷ []) → AreApart (slot ∷ slots)
last_moved [] slot apart = (tt, tt)
last_moved (first ∷ others) slot apart =
    let rest = last_moved others slot apart.1 in
    let differs = all_last (λ other. other ≢ first) others slot apart.0 in (
      (λ same. differs (sym same), rest.0),
      (AllByRecursion-front (λ other. other ≢ first) others (slot ∷ []) apart.0, rest.1),
    )

-- ---- what stands in slots

value_there : {X : Type 0} (option : Option X) → is_some option ≡ true → (x : X) × (option ≡ Some x)
value_there None e = absurd (false≢true e)
value_there (Some x) e = (x, refl)

insert-cons_option : {X : Type 0} (option : Option X) (xs : List X) (place : ℕ) (x : X) → is_some option ≡ true
    → insert (cons_option option xs) (suc place) x ≡ cons_option option (insert xs place x)
insert-cons_option None xs place x e = absurd (false≢true e)
insert-cons_option (Some y) xs place x e = refl

remove-cons_option : {X : Type 0} (option : Option X) (xs : List X) (place : ℕ) → is_some option ≡ true
    → remove (cons_option option xs) (suc place) ≡ cons_option option (remove xs place)
remove-cons_option None xs place e = absurd (false≢true e)
remove-cons_option (Some y) xs place e = refl

set-cons_option : {X : Type 0} (option : Option X) (xs : List X) (place : ℕ) (x : X) → is_some option ≡ true
    → slice_set (cons_option option xs) (suc place) x ≡ cons_option option (slice_set xs place x)
set-cons_option None xs place x e = absurd (false≢true e)
set-cons_option (Some y) xs place x e = refl

module _ {X : Type 0} (old : ℕ → Option X) where
  abbrev AllTaken : List ℕ → Type 0
  AllTaken slots = AllByRecursion (λ slot. is_some (old slot) ≡ true) slots

  list_at : (slots : List ℕ) (place slot : ℕ) → AllTaken slots → slice_get slots place ≡ Some slot
      → slice_get (filter_map old slots) place ≡ old slot
  list_at [] place slot taken e = absurd (none-some slot e)
  list_at (first ∷ others) zero slot taken e =
      let there = value_there (old first) taken.0 in
      rw there.1 (sym there.1 ∙ ap old (same_Some first slot e))
  list_at (first ∷ others) (suc place) slot taken e =
      let there = value_there (old first) taken.0 in
      rw there.1 (list_at others place slot taken.1 e)

  -- a slot less
  list-remove : (slots : List ℕ) (place : ℕ) → AllTaken slots
      → filter_map old (remove slots place) ≡ remove (filter_map old slots) place
  list-remove [] zero taken = refl
  list-remove [] (suc place) taken = refl
  list-remove (first ∷ others) zero taken =
      let there = value_there (old first) taken.0 in
      rw there.1 refl
  list-remove (first ∷ others) (suc place) taken =
      ap (λ (l : List X). cons_option (old first) l) (list-remove others place taken.1)
      ∙ sym (remove-cons_option (old first) (filter_map old others) place taken.0)

  length-list : (slots : List ℕ) → AllTaken slots → length (filter_map old slots) ≡ length slots
  length-list [] taken = refl
  length-list (first ∷ others) taken =
      let there = value_there (old first) taken.0 in
      rw there.1 (ap suc (length-list others taken.1))

  module _ (new : ℕ → Option X) (slot : ℕ) (others_stay : (other : ℕ) → other ≢ slot → new other ≡ old other) where
    list-same : (slots : List ℕ) → AllByRecursion (λ other. other ≢ slot) slots → filter_map new slots ≡ filter_map old slots
    list-same [] differ = refl
    list-same (first ∷ others) differ =
        rw (others_stay first differ.0) (ap (λ (l : List X). cons_option (old first) l) (list-same others differ.1))

    -- a slot more
    list-insert : (slots : List ℕ) (place : ℕ) (x : X) → place ≤ length slots → AllTaken slots
        → AllByRecursion (λ other. other ≢ slot) slots → new slot ≡ Some x
        → filter_map new (insert slots place slot) ≡ insert (filter_map old slots) place x
    list-insert [] zero x within taken differ here = rw here refl
    list-insert [] (suc place) x within taken differ here = absurd (omega (arith, within))
    list-insert (first ∷ others) zero x within taken differ here =
        rw here (ap (λ (l : List X). x ∷ l) (list-same (first ∷ others) differ))
    list-insert (first ∷ others) (suc place) x within taken differ here =
        let same = others_stay first differ.0 in
        let rest = list-insert others place x (omega (arith, within)) taken.1 differ.1 here in
        (λ i. cons_option (same i) (rest i)) ∙ sym (insert-cons_option (old first) (filter_map old others) place x taken.0)

    -- a slot with another value
    first_differs : (first : ℕ) (others : List ℕ) → AllByRecursion (λ other. other ≢ first) others → first ≡ slot
        → AllByRecursion (λ other. other ≢ slot) others
    first_differs first others apart e = subst (λ (s : ℕ). AllByRecursion (λ other. other ≢ s) others) e apart

    other_than_first : (first place : ℕ) (others : List ℕ) → AllByRecursion (λ other. other ≢ first) others
        → slice_get others place ≡ Some slot → first ≢ slot
    other_than_first first place others apart e =
        λ same. AllByRecursion-slice_get (λ other. other ≢ first) others place slot e apart (sym same)

    list-set : (slots : List ℕ) (place : ℕ) (x : X) → AreApart slots → AllTaken slots → slice_get slots place ≡ Some slot
        → new slot ≡ Some x → filter_map new slots ≡ slice_set (filter_map old slots) place x
    list-set [] place x apart taken e here = absurd (none-some slot e)
    list-set (first ∷ others) zero x apart taken e here =
        let there = value_there (old first) taken.0 in
        let is = same_Some first slot e in
        let value : new first ≡ Some x = ap new is ∙ here in
        rw there.1 (rw value (ap (λ (l : List X). x ∷ l) (list-same others (first_differs first others apart.0 is))))
    list-set (first ∷ others) (suc place) x apart taken e here =
        let same = others_stay first (other_than_first first place others apart.0 e) in
        let rest = list-set others place x apart.1 taken.1 e here in
        (λ i. cons_option (same i) (rest i)) ∙ sym (set-cons_option (old first) (filter_map old others) place x taken.0)

-- ---- slots that are taken or free

there_below : {X : Type 0} (xs : List X) (place : ℕ) → place < length xs → is_some (slice_get xs place) ≡ true
there_below xs place within = ap is_some (slice_get_some xs place within).1

module _ {entries : List Entry} {taken free : List ℕ} (are : AreTaken entries taken free) where
  abbrev IsWithin : ℕ → Type 0
  IsWithin slot = slot < length entries

  all_within : AllByRecursion IsWithin taken
  all_within = AllByRecursion-front IsWithin taken free are.within

  all_there : AllTaken (slice_get entries) taken
  all_there =
      AllByRecursion-implies IsWithin (λ slot. is_some (slice_get entries slot) ≡ true) (there_below entries) taken all_within

  pub free_within : AllByRecursion IsWithin free
  free_within = all_back IsWithin taken free are.within

  pub as_many : {limit : ℕ} {seen : TableState}
      → ◌≡◌ {A = TableState} (record { limit = limit; entries = entries_in entries taken }) seen
      → length seen.entries ≡ length taken
  as_many is = ap (λ (s : TableState). length s.entries) (sym is) ∙ length-list (slice_get entries) taken all_there

  -- the slot that is read at a place
  pub slot_read : {limit : ℕ} {seen : TableState} {place read slot : ℕ}
      → ◌≡◌ {A = TableState} (record { limit = limit; entries = entries_in entries taken }) seen → place < length seen.entries
      → read ≡ slice_index_or taken place read → slot ≡ read → slice_get taken place ≡ Some slot
  slot_read {place = place} {read = read} is within there same =
      slice_get_read taken (length taken) place read refl (omega (arith, within, as_many is)) there ∙ ap Some (sym same)

  module _ (place : ℕ) {slot : ℕ} (at : slice_get taken place ≡ Some slot) where
    pub within_at : slot < length entries
    within_at = AllByRecursion-slice_get IsWithin taken place slot at all_within

    entry_at : slice_get (entries_in entries taken) place ≡ slice_get entries slot
    entry_at = list_at (slice_get entries) taken place slot all_there at

    pub entry_read : (entry : Entry) → entry ≡ slice_index_or entries slot entry
        → slice_get (entries_in entries taken) place ≡ Some entry
    entry_read entry read = entry_at ∙ slice_get_read entries (length entries) slot entry refl within_at read

    pub key_read : (entry : Entry) → entry ≡ slice_index_or entries slot entry
        → option_map key_in (slice_get (entries_in entries taken) place) ≡ Some entry.key
    key_read entry read = ap (option_map key_in) (entry_read entry read)

    -- its entry is another one
    pub set_entries : (entry : Entry)
        → entries_in (slice_set entries slot entry) taken ≡ slice_set (entries_in entries taken) place entry
    set_entries entry =
        list-set (slice_get entries) (slice_get (slice_set entries slot entry)) slot
        (λ other differs. slice_get-set_other entries slot other entry (λ same. differs (sym same))) taken place entry
        (apart_front taken free are.apart) all_there at (slice_get-set entries slot entry within_at)

    -- it is taken out
    pub out_entries : entries_in entries (remove taken place) ≡ remove (entries_in entries taken) place
    out_entries = list-remove (slice_get entries) taken place all_there

    pub out_taken : AreTaken entries (remove taken place) (free ++ slot ∷ [])
    out_taken =
        let short : place < length taken = slice_get_within taken place slot at in
        let left = remove-append_left taken free place short in
        let at_all : slice_get (taken ++ free) place ≡ Some slot = at_front taken free place slot at in
        let within_all = slice_get_within (taken ++ free) place slot at_all in
        let together = append_assoc (remove taken place) free (slot ∷ []) in record {
          within = subst (AllByRecursion IsWithin) together
              (AllByRecursion-push IsWithin (remove taken place ++ free) slot
              (subst (AllByRecursion IsWithin) left (all_remove IsWithin (taken ++ free) place are.within)) within_at);
          apart = subst AreApart together (apart_push (remove taken place ++ free) slot
              (subst AreApart left (AreApart-remove (taken ++ free) place within_all are.apart))
              (subst (AllByRecursion (λ other. other ≢ slot)) left (others_differ (taken ++ free) place slot are.apart at_all)));
          number = omega (arith, length-remove taken place short, length-append free (slot ∷ []), are.number);
        }

  pub set_taken : (slot : ℕ) (entry : Entry) → AreTaken (slice_set entries slot entry) taken free
  set_taken slot entry =
      let same = length-set entries slot entry in record {
        within = rw same are.within;
        apart = are.apart;
        number = are.number ∙ sym same;
      }

-- a slot is filled, and comes to an entry's place
module _ {old new : List Entry} {taken free left : List ℕ} {slot : ℕ} (are : AreTaken old taken free)
    (then : AreTaken new (slot ∷ taken) left) {place : ℕ} (within : place ≤ length taken) where
  pub put_entries : (entry : Entry) → ((other : ℕ) → other ≢ slot → slice_get new other ≡ slice_get old other)
      → slice_get new slot ≡ Some entry → entries_in new (insert taken place slot) ≡ insert (entries_in old taken) place entry
  put_entries entry others here =
      list-insert (slice_get old) (slice_get new) slot others taken place entry within (all_there are)
      (AllByRecursion-front (λ other. other ≢ slot) taken left then.apart.0) here

  pub put_taken : AreTaken new (insert taken place slot) left
  put_taken =
      let moved = insert-append_left taken left place slot within in
      let within_all : place ≤ length (taken ++ left) = omega (arith, within, length-append taken left) in
      let IsThere : ℕ → Type 0 = λ slot. slot < length new in record {
        within = subst (AllByRecursion IsThere) moved (all_insert IsThere (taken ++ left) place slot then.within.0 then.within.1);
        apart = subst AreApart moved (AreApart-insert (taken ++ left) place slot within_all then.apart.1 then.apart.0);
        number = omega (arith, length-insert taken place slot within, then.number);
      }

-- a slot that was free is taken
pub filled_taken : (entries : List Entry) (taken left : List ℕ) (slot : ℕ) (entry : Entry)
    → AreTaken entries taken (left ++ slot ∷ []) → AreTaken (slice_set entries slot entry) (slot ∷ taken) left
filled_taken entries taken left slot entry are =
    let together = sym (append_assoc taken left (slot ∷ [])) in
    let same = length-set entries slot entry in
    let IsThere : ℕ → Type 0 = λ slot. slot < length entries in
    let all = subst (AllByRecursion IsThere) together are.within in record {
      within = subst (λ (n : ℕ). AllByRecursion (λ other. other < n) (slot ∷ (taken ++ left))) (sym same)
          (all_last IsThere (taken ++ left) slot all, AllByRecursion-front IsThere (taken ++ left) (slot ∷ []) all);
      apart = last_moved (taken ++ left) slot (subst AreApart together are.apart);
      number = omega (arith, length-append left (slot ∷ []), are.number, same);
    }

-- a slot comes behind the others
pub pushed_taken : (entries : List Entry) (taken free : List ℕ) (entry : Entry) → AreTaken entries taken free
    → AreTaken (entries ++ entry ∷ []) (length entries ∷ taken) free
pushed_taken entries taken free entry are =
    let longer = length-append entries (entry ∷ []) in record {
      within = (
        omega (arith, longer),
        AllByRecursion-implies (λ slot. slot < length entries) (λ slot. slot < length (entries ++ entry ∷ []))
            (λ slot below. omega (arith, longer, below)) (taken ++ free) are.within,
      );
      apart = (
        AllByRecursion-implies (λ slot. slot < length entries) (λ slot. slot ≢ length entries)
            (λ slot below. λ same. omega (arith, below, same)) (taken ++ free) are.within,
        are.apart,
      );
      number = omega (arith, longer, are.number);
    }
