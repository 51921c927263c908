-- Openings, each in a slot of its own.
use Rattle.std.specs.Prelude.{◌≡◌, ◌≢◌, ◌==◌, ◌<◌, ◌≤◌, ℕ, Bool, false, List, [], ◌∷◌, length, take, Option, None, Some, slice_get}
use Rattle.std.specs.List.{All, AllByRecursion, filter_map, remove}
use Rattle.slab.specs.Slab.{ContainsKey, Slab, get, slab_len}
use Rattle.system_tables.specs.declared.reassembly.segment.Key.{Key}
use Rattle.system_tables.specs.declared.reassembly.openings.Opening.{Opening}
use Rattle.system_tables.specs.Reassembly.Arrival.{same_key}

-- the openings in the order in which they were made, their slots in the same order, and for how many there is room
pub record OpeningsState : Type 0 where
  pub list : List Opening
  pub slots : List ℕ
  pub room : ℕ

-- the openings in these slots
abbrev pub openings_in : Slab Opening → List ℕ → List Opening
openings_in buffers slots = filter_map (get buffers) slots

-- no slot stands twice
abbrev pub AreApart : List ℕ → Type 0
AreApart [] = Unit {0}
AreApart (slot ∷ others) = AllByRecursion (λ other. other ≢ slot) others × AreApart others

-- The slots that are taken are these, each once.
pub record AreTaken (buffers : Slab Opening) (slots : List ℕ) : Type 0 where
  pub taken : AllByRecursion (ContainsKey buffers) slots
  pub apart : AreApart slots
  pub number : slab_len buffers ≡ length slots

-- whether what stands in a slot is an opening of this key
abbrev pub is_of : Key → Option Opening → Bool
is_of key None = false
is_of key (Some opening) = same_key opening.key key

-- the openings without the one at a place
pub record AreWithout (place : ℕ) (before after : OpeningsState) : Type 0 where
  pub list : after.list ≡ remove before.list place
  pub slots : after.slots ≡ remove before.slots place

-- whether what stands in a slot is an opening whose time ends at a moment
abbrev pub ends_at : ℕ → Option Opening → Bool
ends_at moment None = false
ends_at moment (Some opening) = opening.deadline == moment

-- the opening at a place is the one with the earliest deadline, the first of equals
abbrev pub IsSoonest : List Opening → ℕ → Type 0
IsSoonest openings place =
    (opening : Opening) × (slice_get openings place ≡ Some opening) × All (λ other. (opening.deadline ≤ other.deadline)) openings
    × All (λ other. opening.deadline < other.deadline) (take place openings)
