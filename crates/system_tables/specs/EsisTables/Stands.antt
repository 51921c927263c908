-- Which facts the tables stand for.
use Rattle.std.specs.Prelude.{◌≡◌, ℕ, List, [], ◌∷◌, filter, Option, MatchOption}
use Rattle.system_tables.specs.declared.esis_tables.fact.EsisLimits.{EsisLimits}
use Rattle.system_tables.specs.declared.esis_tables.fact.Gone.{Gone}
use Rattle.system_tables.specs.declared.esis_tables.fact.TableKind.{TableKind}
use Rattle.system_tables.specs.declared.esis_tables.fact.TableKind.TheVariants.{Es, Is, Rd}
use Rattle.system_tables.specs.declared.esis_tables.tables.Tables.{Tables}
use Rattle.system_tables.specs.EsisTables.Fact.{Fact, currents, is_held}
use Rattle.system_tables.specs.EsisTables.Gone.{all_gone, ended_keys}
use Rattle.system_tables.specs.EsisTables.Keeps.{Keeps}
use Rattle.system_tables.specs.EsisTables.State.{TableState}

abbrev pub limits_of : Tables → EsisLimits
limits_of tables =
    record { neighbours = tables.systems.limit; routers = tables.routers.limit; redirects = tables.redirects.limit }

-- A table keeps those of these facts that are current at a moment, and beside them only such whose time has ended: of the keys
-- that are left to be flushed.
pub record KeepsCurrent (table : TableKind) (state : TableState) (facts : List Fact) (now : ℕ) (left : List (List ℕ)) : Type 0 where
  pub kept : List Fact
  pub keeps : Keeps state kept
  pub current : filter (is_held now) kept ≡ currents now table facts
  pub left_is : left ≡ ended_keys now kept

-- Tables stand for these facts at a moment, with these keys left to be flushed.
pub record Stands (tables : Tables) (facts : List Fact) (now : ℕ) (left : List Gone) : Type 0 where
  pub systems_left : List (List ℕ)
  pub routers_left : List (List ℕ)
  pub redirects_left : List (List ℕ)
  pub systems : KeepsCurrent Es tables.systems facts now systems_left
  pub routers : KeepsCurrent Is tables.routers facts now routers_left
  pub redirects : KeepsCurrent Rd tables.redirects facts now redirects_left
  pub left_is : left ≡ all_gone systems_left routers_left redirects_left

-- The answer is the first key that is left, and the tables then stand for the same facts with the others left; or none is left.
abbrev pub FlushesFirst : Option Gone → Tables → List Fact → ℕ → List Gone → Type 0
FlushesFirst answer tables facts now left =
    MatchOption answer ((left ≡ []) × Stands tables facts now [])
    (λ key. (others : List Gone) × (left ≡ key ∷ others) × Stands tables facts now others)
