-- What a table keeps after a hearing.
use Rattle.std.proofs.Common.{◌≡◌, ℕ, ◌<◌, ◌≤◌, ◌==◌, nat_le, true, false, List, Some, refl, sym, ap, subst, ◌∙◌, length, slice_get}
use Rattle.std.proofs.lemmas.Bool.{lt-leb, le-leb, ne_eqb}
use Rattle.std.proofs.lemmas.Option.{slice_get_within, same_Some}
use Rattle.std.specs.List.{list_any}
use Rattle.system_tables.specs.declared.esis_tables.fact.Heard.TheVariants.{New, Again, Full}
use Rattle.system_tables.specs.declared.esis_tables.table.Entry.{Entry}
use Rattle.system_tables.specs.EsisTables.Fact.{Fact, has_key}
use Rattle.system_tables.specs.EsisTables.Keeps.{Keeps, answer_of, kept_after, kept_with, without, entries_of}
use Rattle.system_tables.specs.EsisTables.State.{TableState, IsAt, is_of, key_in}
use Rattle.system_tables.proofs.EsisTables.Keeping.{any_none}
use Rattle.system_tables.proofs.EsisTables.Numbers.{length-entries, without_none}
use Rattle.system_tables.proofs.EsisTables.Sorting.{length-sorted}

pub length_kept : (table : TableState) (kept : List Fact) → Keeps table kept → length table.entries ≡ length kept
length_kept table kept keeps = ap length keeps.entries ∙ length-sorted key_in (entries_of keeps.number kept) ∙ length-entries keeps.number kept

pub unknown_kept : (table : TableState) (key : List ℕ) (kept : List Fact) → Keeps table kept → list_any (has_key key) kept ≡ false
    → Keeps table (without key kept)
unknown_kept table key kept keeps none = subst (Keeps table) (sym (without_none key kept (any_none (has_key key) kept none))) keeps

pub at_within : (entries : List Entry) (key : List ℕ) (at : ℕ) → IsAt entries key at → at < length entries
at_within entries key at place = slice_get_within entries at place.entry place.stands_at

pub is_its_own : (entries : List Entry) (key : List ℕ) (at : ℕ) (entry : Entry) → IsAt entries key at → slice_get entries at ≡ Some entry
    → is_of key entry ≡ true
is_its_own entries key at entry place there =
    let same : place.entry ≡ entry = same_Some _ _ (sym place.stands_at ∙ there) in
    subst (λ (e : Entry). is_of key e ≡ true) same place.is_its

-- what the answers are
module _ (limit : ℕ) (fact : Fact) (kept : List Fact) (lasts : fact.holding ≡ 0 → ⊥) where
  zero_no : (fact.holding == 0) ≡ false
  zero_no = ne_eqb fact.holding 0 lasts

  pub answer_full : (entries : ℕ) → list_any (has_key fact.key) kept ≡ false → limit ≤ length kept → entries ≡ length kept
      → Full entries ≡ answer_of limit fact kept
  answer_full entries none full is =
      let full_test : nat_le limit (length kept) ≡ true = le-leb limit (length kept) full in
      rw (zero_no, none, full_test) (ap Full is)

  pub answer_again : list_any (has_key fact.key) kept ≡ true → Again ≡ answer_of limit fact kept
  answer_again known = rw (zero_no, known) refl

  pub answer_new : list_any (has_key fact.key) kept ≡ false → length kept < limit → New ≡ answer_of limit fact kept
  answer_new none room =
      let room_test : nat_le limit (length kept) ≡ false = lt-leb limit (length kept) room in
      rw (zero_no, none, room_test) refl

  pub kept_full : list_any (has_key fact.key) kept ≡ false → limit ≤ length kept → kept ≡ kept_after limit fact kept
  kept_full none full =
      let full_test : nat_le limit (length kept) ≡ true = le-leb limit (length kept) full in
      rw (zero_no, none, full_test) refl

  pub kept_again : list_any (has_key fact.key) kept ≡ true → kept_with fact kept ≡ kept_after limit fact kept
  kept_again known = rw (zero_no, known) refl

  pub kept_new : list_any (has_key fact.key) kept ≡ false → length kept < limit → kept_with fact kept ≡ kept_after limit fact kept
  kept_new none room =
      let room_test : nat_le limit (length kept) ≡ false = lt-leb limit (length kept) room in
      rw (zero_no, none, room_test) refl
