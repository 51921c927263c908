-- Which keys are gone when time goes on.
use Rattle.std.specs.Prelude.{ℕ, not, List, ◌++◌, map, filter}
use Rattle.system_tables.specs.declared.esis_tables.fact.Gone.{Gone}
use Rattle.system_tables.specs.declared.esis_tables.fact.TableKind.{TableKind}
use Rattle.system_tables.specs.declared.esis_tables.fact.TableKind.TheVariants.{Es, Is, Rd}
use Rattle.system_tables.specs.EsisTables.Fact.{Fact, currents, is_held}
use Rattle.system_tables.specs.EsisTables.Order.{in_order}

abbrev pub key_of : Fact → List ℕ
key_of fact = fact.key

-- the keys, by rising key, of those facts whose holding time has ended
abbrev pub ended_keys : ℕ → List Fact → List (List ℕ)
ended_keys now facts = in_order (λ key. key) (map key_of (filter (λ fact. not (is_held now fact)) facts))

abbrev pub gone_from : TableKind → List ℕ → Gone
gone_from table key = record { table = table; key = key }

-- keys of the three tables: of end systems first, then of intermediate systems, then of redirects
abbrev pub all_gone : List (List ℕ) → List (List ℕ) → List (List ℕ) → List Gone
all_gone systems routers redirects =
    map (gone_from Es) systems ++ (map (gone_from Is) routers ++ map (gone_from Rd) redirects)

-- the keys of a table that have a current fact at one moment and none at a later one, by rising key
abbrev pub gone_keys : (before now : ℕ) → TableKind → List Fact → List (List ℕ)
gone_keys before now table facts = ended_keys now (currents before table facts)

-- those of all tables, in the order of the tables
abbrev pub gone : (before now : ℕ) → List Fact → List Gone
gone before now facts = all_gone (gone_keys before now Es facts) (gone_keys before now Is facts) (gone_keys before now Rd facts)
