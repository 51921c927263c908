-- A table that became another one in its place.
use Rattle.std.proofs.Common.{◌≡◌, ℕ, ◌<◌, List, length, get_or, refl, sym, ap, ◌∙◌, subst, set-set}
use Rattle.std.specs.Prelude.{Some, slice_get, slice_set}
use Rattle.std.proofs.lemmas.Option.{same_Some, slice_get_read, slice_get_within}
use Rattle.pdus.proofs.ClnpBase.Lists.{slice_get-set, slice_set-same}
use Rattle.system_tables.specs.Reassembly.State.{TableState}
use Rattle.system_tables.specs.FairReassembly.Tables.{At, ChangesTable, FairState, IsAt, with_table}

pub there : (tables : List TableState) (place : ℕ) (table : TableState) → place < length tables → table ≡ get_or tables place table
    → slice_get tables place ≡ Some table
there tables place table within read = slice_get_read tables _ place table refl within read

module _ (place : ℕ) (sources : List (List ℕ)) (tables : List TableState) (before : FairState) (old new : TableState)
    (Changes : TableState → TableState → Type 0) where
  abbrev inside : List TableState → FairState
  inside tables = record { sources = sources; tables = tables }

  pub changed : inside tables ≡ before → place < length before.tables → old ≡ get_or tables place old → Changes old new
      → ChangesTable place before (inside (slice_set tables place new)) Changes
  changed view_is within read changes =
      subst (λ (s : FairState). ChangesTable place s (inside (slice_set tables place new)) Changes) view_is
      (record {
        old = old;
        new = new;
        stood = there tables place old (subst (λ (s : FairState). place < length s.tables) (sym view_is) within) read;
        changes = changes;
        rest = refl;
      })

-- what is so of the table at a place, where the tables stand inside of a state
module _ (place : ℕ) (sources : List (List ℕ)) (tables : List TableState) (state : FairState)
    (view_is : record { sources = sources; tables = tables } ≡ state) where
  pub within_tables : place < length state.tables → place < length tables
  within_tables within = subst (λ (s : FairState). place < length s.tables) (sym view_is) within

  pub stood_at : (table : TableState) → place < length state.tables → table ≡ get_or tables place table → slice_get state.tables place ≡ Some table
  stood_at table within read =
      subst (λ (s : FairState). slice_get s.tables place ≡ Some table) view_is (there tables place table (within_tables within) read)

  pub is_so : (table : TableState) (Holds : TableState → Type 0) → (at : IsAt state place Holds) → table ≡ get_or tables place table → Holds table
  is_so table Holds at read =
      let stood = stood_at table (slice_get_within state.tables place at.table at.stands_at) read in
      subst Holds (sym (same_Some table at.table (sym stood ∙ at.stands_at))) at.holds

  pub so_there : (table : TableState) (Holds : TableState → Type 0) → place < length state.tables → table ≡ get_or tables place table → Holds table
      → At state place Holds
  so_there table Holds within read holds = λ other at. subst Holds (same_Some table other (sym (stood_at table within read) ∙ at)) holds

-- one change behind another of the table at the same place
module _ (place : ℕ) (Changes Then Both : TableState → TableState → Type 0) where
  -- the table that stands there then
  pub stands_then : (before after : FairState) → (c : ChangesTable place before after Changes) → slice_get after.tables place ≡ Some c.new
  stands_then before after c =
      ap (λ (s : FairState). slice_get s.tables place) c.rest
      ∙ slice_get-set before.tables place c.new (slice_get_within before.tables place c.old c.stood)

  pub changed_as : (before after : FairState) → ((old new : TableState) → slice_get after.tables place ≡ Some new → Changes old new → Both old new)
      → ChangesTable place before after Changes → ChangesTable place before after Both
  changed_as before after weaker c =
      record { old = c.old; new = c.new; stood = c.stood; changes = weaker c.old c.new (stands_then before after c) c.changes; rest = c.rest }

  pub changed_then : (before between after : FairState)
      → ((old mid new : TableState) → slice_get between.tables place ≡ Some mid → Changes old mid → Then mid new → Both old new)
      → ChangesTable place before between Changes → ChangesTable place between after Then → ChangesTable place before after Both
  changed_then before between after both c d =
      let mid = stands_then before between c in
      let same : d.old ≡ c.new = same_Some d.old c.new (sym d.stood ∙ mid) in
      let twice : List TableState → FairState = λ tables. record { sources = before.sources; tables = tables } in
      record {
        old = c.old;
        new = d.new;
        stood = c.stood;
        changes = both c.old c.new d.new mid c.changes (subst (λ (table : TableState). Then table d.new) same d.changes);
        rest = d.rest ∙ ap (with_table place d.new) c.rest ∙ ap twice (set-set before.tables place c.new d.new);
      }

  -- nothing changed
  pub unchanged : (state : FairState) (table : TableState) → slice_get state.tables place ≡ Some table → Both table table
      → ChangesTable place state state Both
  unchanged state table at same =
      let inside : List TableState → FairState = λ tables. record { sources = state.sources; tables = tables } in
      record { old = table; new = table; stood = at; changes = same; rest = sym (ap inside (slice_set-same state.tables place table at)) }
