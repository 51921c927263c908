-- The first entry whose time has ended.
use Rattle.std.proofs.Common.{◌≡◌, ℕ, zero, suc, ◌+◌, ◌<◌, ◌≤◌, Bool, true, false, cond, not, List, [], ◌∷◌, None, Some, refl, sym, ap, subst, ◌∙◌, inl, inr, arith, length, map, slice_get, remove}
use Rattle.std.proofs.lemmas.Bool.{cases_Bool, lt-ltb, not-true}
use Rattle.std.proofs.lemmas.Option.{slice_get_within, same_Some}
use Rattle.std.specs.List.{AllByRecursion, filter, find, position_from}
use Rattle.system_tables.specs.declared.esis_tables.table.Entry.{Entry}
use Rattle.system_tables.specs.EsisTables.Fact.{Fact, has_key, is_held}
use Rattle.system_tables.specs.EsisTables.Gone.{ended_keys, key_of}
use Rattle.system_tables.specs.EsisTables.Keeps.{Keeps, AreDistinct, entries_of, without}
use Rattle.system_tables.specs.EsisTables.Order.{in_order}
use Rattle.system_tables.specs.EsisTables.State.{TableState, entry_for, is_kept, is_of, key_in}
use Rattle.pdus.proofs.ClnpBase.SameOctets.{same-itself}
use Rattle.system_tables.proofs.EsisTables.Keeping.{found_in, rising_of, taken_kept}
use Rattle.system_tables.proofs.EsisTables.Places.{find_is}
use Rattle.system_tables.proofs.EsisTables.Numbers.{differ-entries, distinct-key, found_first, found_later, without_none}
use Rattle.system_tables.proofs.EsisTables.Rising.{filter_none}
use Rattle.system_tables.proofs.EsisTables.Sorting.{filter-in_order, map-in_order}

-- the first item that passes a test stands at this place
pub record IsFirst {X : Type 0} (p : X → Bool) (start : ℕ) (xs : List X) (found : ℕ) : Type 0 where
  pub place : ℕ
  pub counted : found ≡ start + place
  pub item : X
  pub stands_at : slice_get xs place ≡ Some item
  pub passes : p item ≡ true
  pub rest : filter p xs ≡ item ∷ filter p (remove xs place)

pub first_found : {X : Type 0} (p : X → Bool) (start : ℕ) (xs : List X) (found : ℕ) → position_from p start xs ≡ Some found → IsFirst p start xs found
first_found p start [] found h = absurd (cc)
first_found p start (x ∷ xs) found h =
    elim (cases_Bool (p x)) [
      | inl t ↦
          let here : start ≡ found = same_Some _ _ (rw t at h) in
          record {
            place = zero;
            counted = omega arith;
            item = x;
            stands_at = refl;
            passes = t;
            rest = rw t refl;
          }
      | inr f ↦
          let later = first_found p (start + 1) xs found (rw f at h) in
          record {
            place = suc later.place;
            counted = omega (arith, later.counted);
            item = later.item;
            stands_at = later.stands_at;
            passes = later.passes;
            rest = rw f later.rest;
          }
    ]

pub none_found : {X : Type 0} (p : X → Bool) (start : ℕ) (xs : List X) → position_from p start xs ≡ None → filter p xs ≡ []
none_found p start [] h = refl
none_found p start (x ∷ xs) h =
    elim (cases_Bool (p x)) [
      | inl t ↦ absurd (some_none (rw t at h))
      | inr f ↦ rw f (none_found p (start + 1) xs (rw f at h))
    ]
  where
    some_none : {n : ℕ} → Some n ≡ None → ⊥
    some_none e = cc

abbrev pub has_ended : ℕ → Entry → Bool
has_ended now entry = not (is_kept now entry)

keys-entries : (now : ℕ) (number : List ℕ → ℕ) (kept : List Fact)
    → map key_in (filter (has_ended now) (entries_of number kept)) ≡ map key_of (filter (λ fact. not (is_held now fact)) kept)
keys-entries now number [] = refl
keys-entries now number (fact ∷ later) =
    elim (cases_Bool (not (is_held now fact))) [
      | inl t ↦ rw t (ap (λ l. fact.key ∷ l) (keys-entries now number later))
      | inr f ↦ rw f (keys-entries now number later)
    ]

-- the keys of the ended entries are those of the ended facts, in order
pub ended_is : (now : ℕ) (table : TableState) (kept : List Fact) → Keeps table kept
    → ended_keys now kept ≡ map key_in (filter (has_ended now) table.entries)
ended_is now table kept keeps =
    let entries : List Entry = entries_of keeps.number kept in
    ap (in_order (λ key. key)) (sym (keys-entries now keeps.number kept))
    ∙ sym (map-in_order key_in (λ key. key) key_in (λ e. refl) (filter (has_ended now) entries))
    ∙ ap (map key_in) (sym (filter-in_order key_in (has_ended now) entries (differ-entries keeps.number kept keeps.distinct)))
    ∙ ap (λ l. map key_in (filter (has_ended now) l)) (sym keeps.entries)

pub none_ended : (now : ℕ) (table : TableState) (kept : List Fact) → Keeps table kept
    → position_from (has_ended now) 0 table.entries ≡ None → ended_keys now kept ≡ []
none_ended now table kept keeps none = ended_is now table kept keeps ∙ ap (map key_in) (none_found (has_ended now) 0 table.entries none)

-- before the soonest end none has ended
pub none_ended_before : (now soonest : ℕ) (table : TableState) (kept : List Fact) → Keeps table kept → now < soonest
    → AllByRecursion (λ (entry : Entry). soonest ≤ entry.until) table.entries → ended_keys now kept ≡ []
none_ended_before now soonest table kept keeps before bound =
    ended_is now table kept keeps ∙ ap (map key_in) (filter_none (has_ended now) table.entries (all_hold table.entries bound))
  where
    all_hold : (entries : List Entry) → AllByRecursion (λ (entry : Entry). soonest ≤ entry.until) entries → AllByRecursion (λ entry. has_ended now entry ≡ false) entries
    all_hold [] all = tt
    all_hold (entry ∷ rest) all = (ap not (lt-ltb now entry.until (omega (arith, before, all.0))), all_hold rest all.1)

-- the first ended entry is taken out
module _ (now : ℕ) (table new : TableState) (kept : List Fact) (keeps : Keeps table kept) (at : ℕ) (entry : Entry)
    (found : position_from (has_ended now) 0 table.entries ≡ Some at) (there : slice_get table.entries at ≡ Some entry)
    (is : new.entries ≡ remove table.entries at) where
  pub flushed_keeps : Keeps new (without entry.key kept)
  flushed_keeps = taken_kept table kept keeps new entry.key at entry there (same-itself entry.key) is

  pub flushed_first : ended_keys now kept ≡ entry.key ∷ ended_keys now (without entry.key kept)
  flushed_first =
      let first = first_found (has_ended now) 0 table.entries at found in
      let place : first.place ≡ at = omega (arith, first.counted) in
      let rest : filter (has_ended now) table.entries ≡ first.item ∷ filter (has_ended now) (remove table.entries at) =
      first.rest ∙ ap (λ n. first.item ∷ filter (has_ended now) (remove table.entries n)) place in
      let item : first.item ≡ entry = same_Some _ _ (sym first.stands_at ∙ ap (slice_get table.entries) place ∙ there) in
      ended_is now table kept keeps
      ∙ ap (map key_in) rest
      ∙ ap (λ (e : Entry). e.key ∷ map key_in (filter (has_ended now) (remove table.entries at))) item
      ∙ ap (λ l. entry.key ∷ map key_in (filter (has_ended now) l)) (sym is)
      ∙ ap (λ l. entry.key ∷ l) (sym (ended_is now new (without entry.key kept) flushed_keeps))

-- what is held is so without an ended entry
held_without : (now : ℕ) (key : List ℕ) (number : List ℕ → ℕ) (kept : List Fact) (entry : Entry) → AreDistinct kept
    → find (is_of key) (entries_of number kept) ≡ Some entry
    → is_kept now entry ≡ false → filter (is_held now) (without key kept) ≡ filter (is_held now) kept
held_without now key number [] entry distinct found ended = refl
held_without now key number (fact ∷ later) entry distinct found ended =
    elim (cases_Bool (has_key key fact)) [
      | inl t ↦
          let here : entry_for fact (number fact.key) ≡ entry = found_first number key fact later entry found t in
          let not_held : is_held now fact ≡ false = subst (λ (e : Entry). is_kept now e ≡ false) (sym here) ended in
          let alone : without key later ≡ later = without_none key later (distinct-key key fact later distinct t) in
          rw t (rw not_held (ap (filter (is_held now)) alone))
      | inr f ↦ rw f (step_on (is_held now fact) (held_without now key number later entry distinct.1 (found_later number key fact later entry found f) ended))
    ]
  where
    step_on : (b : Bool) → filter (is_held now) (without key later) ≡ filter (is_held now) later
        → cond b (fact ∷ filter (is_held now) (without key later)) (filter (is_held now) (without key later)) ≡ cond b (fact ∷ filter (is_held now) later) (filter (is_held now) later)
    step_on true e = ap (λ l. fact ∷ l) e
    step_on false e = e

pub flushed_held : (now : ℕ) (table : TableState) (kept : List Fact) → Keeps table kept → (at : ℕ) (entry : Entry)
    → position_from (has_ended now) 0 table.entries ≡ Some at → slice_get table.entries at ≡ Some entry
    → filter (is_held now) (without entry.key kept) ≡ filter (is_held now) kept
flushed_held now table kept keeps at entry found there =
    let first = first_found (has_ended now) 0 table.entries at found in
    let place : first.place ≡ at = omega (arith, first.counted) in
    let item : first.item ≡ entry = same_Some _ _ (sym first.stands_at ∙ ap (slice_get table.entries) place ∙ there) in
    let ended : is_kept now entry ≡ false = not-true (is_kept now entry) (subst (λ (e : Entry). has_ended now e ≡ true) item first.passes) in
    let its : find (is_of entry.key) (entries_of keeps.number kept) ≡ Some entry =
    sym (found_in table kept keeps entry.key) ∙ find_is key_in table.entries at entry entry.key (rising_of table kept keeps) there (same-itself entry.key) in
    held_without now entry.key keeps.number kept entry keeps.distinct its ended

pub within_found : (now : ℕ) (entries : List Entry) (at : ℕ) → position_from (has_ended now) 0 entries ≡ Some at → at < length entries
within_found now entries at found =
    let first = first_found (has_ended now) 0 entries at found in
    omega (arith, first.counted, slice_get_within entries first.place first.item first.stands_at)
