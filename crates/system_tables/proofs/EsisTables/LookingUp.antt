-- What a look-up in a table answers.
use Rattle.std.proofs.Common.{◌≡◌, ℕ, ◌<◌, ◌≤◌, Bool, ◌&&◌, ◌||◌, List, [], ◌∷◌, None, Some, refl, sym, ap, ◌∙◌, inl, inr, slice_get}
use Rattle.std.proofs.lemmas.Bool.{cases_Bool, cond-true, cond-false, lt-ltb, le-ltb}
use Rattle.std.proofs.lemmas.Option.{same_Some}
use Rattle.std.specs.List.{filter, find, list_any}
use Rattle.std.specs.Option.{option_map}
use Rattle.system_tables.specs.declared.esis_tables.table.Entry.{Entry}
use Rattle.system_tables.specs.EsisTables.Fact.{Fact, has_key, is_held, while_held}
use Rattle.system_tables.specs.EsisTables.Keeps.{Keeps, entries_of}
use Rattle.system_tables.specs.EsisTables.NextHop.{is_at, neighbour_of}
use Rattle.system_tables.specs.EsisTables.Order.{IsRising}
use Rattle.system_tables.specs.EsisTables.State.{TableState, IsAt, IsGap, is_kept, is_kept_at, is_of, key_in, neighbour_while_kept}
use Rattle.system_tables.proofs.EsisTables.Keeping.{any_kept, found_in, splits_of}
use Rattle.system_tables.proofs.EsisTables.Places.{find_is, find_none, none_has}

-- the entry of a key, read at its place
read_there : (entries : List Entry) (key : List ℕ) (at : ℕ) (entry : Entry) → IsAt entries key at → slice_get entries at ≡ Some entry
    → IsRising key_in entries → find (is_of key) entries ≡ Some entry
read_there entries key at entry place read rising =
    let same : place.entry ≡ entry = same_Some place.entry entry (sym place.stands_at ∙ read) in
    find_is key_in entries at place.entry key rising place.stands_at place.is_its ∙ ap Some same

pub held_there : (now : ℕ) (entries : List Entry) (key : List ℕ) (at : ℕ) (entry : Entry) → IsAt entries key at → slice_get entries at ≡ Some entry
    → now < entry.until → IsRising key_in entries → Some entry.neighbour ≡ neighbour_while_kept now (find (is_of key) entries)
held_there now entries key at entry place read holds rising =
    sym (ap (neighbour_while_kept now) (read_there entries key at entry place read rising)
    ∙ cond-true (is_kept now entry) (Some entry.neighbour) None (lt-ltb now entry.until holds))

pub ended_there : (now : ℕ) (entries : List Entry) (key : List ℕ) (at : ℕ) (entry : Entry) → IsAt entries key at → slice_get entries at ≡ Some entry
    → entry.until ≤ now → IsRising key_in entries → None ≡ neighbour_while_kept now (find (is_of key) entries)
ended_there now entries key at entry place read ended rising =
    sym (ap (neighbour_while_kept now) (read_there entries key at entry place read rising)
    ∙ cond-false (is_kept now entry) (Some entry.neighbour) None (le-ltb now entry.until ended))

pub held_nowhere : (now : ℕ) (entries : List Entry) (key : List ℕ) (at : ℕ) → IsGap entries key at
    → None ≡ neighbour_while_kept now (find (is_of key) entries)
held_nowhere now entries key at gap =
    sym (ap (neighbour_while_kept now) (find_none key_in entries key (none_has key_in entries at key (splits_of entries key at gap))))

place-entries : (now : ℕ) (key : List ℕ) (number : List ℕ → ℕ) (kept : List Fact)
    → neighbour_while_kept now (find (is_of key) (entries_of number kept)) ≡ option_map neighbour_of (while_held now (find (has_key key) kept))
place-entries now key number [] = refl
place-entries now key number (fact ∷ later) =
    elim (cases_Bool (has_key key fact)) [
      | inl t ↦ rw t (elim (cases_Bool (is_held now fact)) [
        | inl h ↦ rw h refl
        | inr e ↦ rw e refl
      ])
      | inr f ↦ rw f (place-entries now key number later)
    ]

-- the place of a key in a table is that of the kept fact
pub place_kept : (now : ℕ) (key : List ℕ) (table : TableState) (kept : List Fact) → Keeps table kept
    → neighbour_while_kept now (find (is_of key) table.entries) ≡ option_map neighbour_of (while_held now (find (has_key key) kept))
place_kept now key table kept keeps = ap (neighbour_while_kept now) (found_in table kept keeps key) ∙ place-entries now key keeps.number kept

any-filter : {X : Type 0} (p q : X → Bool) (xs : List X) → list_any (λ x. p x && q x) xs ≡ list_any q (filter p xs)
any-filter p q [] = refl
any-filter p q (x ∷ xs) =
    elim (cases_Bool (p x)) [
      | inl t ↦ rw t (ap (λ b. q x || b) (any-filter p q xs))
      | inr f ↦ rw f (any-filter p q xs)
    ]

pub at_kept : (now : ℕ) (snpa : List ℕ) (table : TableState) (kept : List Fact) → Keeps table kept
    → list_any (is_kept_at now snpa) table.entries ≡ list_any (is_at snpa) (filter (is_held now) kept)
at_kept now snpa table kept keeps =
    any_kept (is_kept_at now snpa) (λ fact. is_held now fact && is_at snpa fact) (λ fact number. refl) table kept keeps
    ∙ any-filter (is_held now) (is_at snpa) kept
