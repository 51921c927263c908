-- Entries, each in a slot of its own.
use Rattle.std.specs.Prelude.{◌≡◌, ◌≢◌, ◌<◌, ◌+◌, ℕ, List, [], ◌∷◌, ◌++◌, length, slice_get}
use Rattle.std.specs.List.{AllByRecursion, filter_map}
use Rattle.system_tables.specs.declared.esis_tables.table.Entry.{Entry}

-- the entries in these slots
abbrev pub entries_in : List Entry → List ℕ → List Entry
entries_in entries slots = filter_map (slice_get entries) slots

-- no slot stands twice
abbrev pub AreApart : List ℕ → Type 0
AreApart [] = Unit {0}
AreApart (slot ∷ others) = AllByRecursion (λ other. other ≢ slot) others × AreApart others

-- Each slot is taken or free: these are taken and those are free, each once.
pub record AreTaken (entries : List Entry) (taken free : List ℕ) : Type 0 where
  pub within : AllByRecursion (λ slot. slot < length entries) (taken ++ free)
  pub apart : AreApart (taken ++ free)
  pub number : length taken + length free ≡ length entries
