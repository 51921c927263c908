-- The tables of sources: one for each source that has a share, and one for all others.
use Rattle.std.specs.Prelude.{◌≡◌, ℕ, ◌+◌, List, [], ◌∷◌, map, Option, None, Some, slice_get, slice_set}
use Rattle.std.specs.List.{position_from}
use Rattle.std.specs.Str.{bytes_eq}
use Rattle.pdus.specs.ClnpViews.Extent.{Extent}
use Rattle.system_tables.specs.declared.reassembly.table.TableLimits.{TableLimits}
use Rattle.system_tables.specs.Reassembly.Buffer.{Buffer}
use Rattle.system_tables.specs.Reassembly.NoWhole.{HasNoWhole}
use Rattle.system_tables.specs.Reassembly.State.{Stands, TableState}
use Rattle.system_tables.specs.declared.fair_reassembly.share.Share.{Share}

-- the sources that have a share, and the tables: that of all other sources, and behind it one for each share
pub record FairState : Type 0 where
  pub sources : List (List ℕ)
  pub tables : List TableState

abbrev pub place_behind : Option ℕ → ℕ
place_behind None = 0
place_behind (Some at) = at + 1

-- the place of a source's table
abbrev pub place_of : List (List ℕ) → List ℕ → ℕ
place_of sources from = place_behind (position_from (λ source. bytes_eq source from) 0 sources)

-- the sources of some shares
abbrev pub sources_of : List Share → List (List ℕ)
sources_of shares = map (λ (share : Share). share.from) shares

-- no two places have the same source
abbrev pub AreDistinct : List (List ℕ) → Type 0
AreDistinct sources =
    (i j : ℕ) (source : List ℕ) → slice_get sources i ≡ Some source → slice_get sources j ≡ Some source → i ≡ j

-- the numbers of the tables, in order
abbrev pub limits_of : TableLimits → List Share → List TableLimits
limits_of others shares = others ∷ map (λ (share : Share). share.limits) shares

-- a table that stands for these buffers, none of them whole, and keeps to these numbers
pub record Keeps (limits : TableLimits) (buffers : List (Buffer Extent)) (table : TableState) : Type 0 where
  pub stands : Stands table buffers
  pub none_whole : HasNoWhole table
  pub limits_are : table.limits ≡ limits

-- a table that keeps nothing, with these numbers
abbrev pub IsOpened : TableLimits → TableState → Type 0
IsOpened limits table = Keeps limits [] table

abbrev pub AreOpened : List TableLimits → List TableState → Type 0
AreOpened [] [] = Unit {0}
AreOpened (limits ∷ more) (table ∷ tables) = IsOpened limits table × AreOpened more tables
AreOpened [] (table ∷ tables) = ⊥
AreOpened (limits ∷ more) [] = ⊥

-- the tables of some shares and of all other sources, each without buffers
pub record AreNew (others : TableLimits) (shares : List Share) (state : FairState) : Type 0 where
  pub sources : state.sources ≡ sources_of shares
  pub tables : AreOpened (limits_of others shares) state.tables

-- what is so of the table at a place, if there is one
abbrev pub At : FairState → ℕ → (TableState → Type 0) → Type 0
At state place Holds = (table : TableState) → slice_get state.tables place ≡ Some table → Holds table

-- there is a table at a place of which it is so
pub record IsAt (state : FairState) (place : ℕ) (Holds : TableState → Type 0) : Type 0 where
  pub table : TableState
  pub stands_at : slice_get state.tables place ≡ Some table
  pub holds : Holds table

-- another table at a place, and nothing else changed
abbrev pub with_table : ℕ → TableState → FairState → FairState
with_table place new state = record { sources = state.sources; tables = slice_set state.tables place new }

-- The table at a place became another one, as a relation says of the two, and nothing else changed.
pub record ChangesTable (place : ℕ) (before after : FairState) (Changes : TableState → TableState → Type 0) : Type 0 where
  pub old : TableState
  pub new : TableState
  pub stood : slice_get before.tables place ≡ Some old
  pub changes : Changes old new
  pub rest : after ≡ with_table place new before
