-- How the words of a line are laid in room that was made for them.
use Rattle.std.specs.Prelude.{ℕ, List, ◌≡◌, ◌<◌, ◌≤◌, ◌+◌, ◌-◌, ◌^◌, ◌++◌, length, take}

-- so much room is enough for a text; the greatest number stands for what no memory has
abbrev pub HasRoom : ℕ → List ℕ → Type 0
HasRoom room text = room < 2 ^ 64 - 1 → length text ≤ room

-- a text stands in a place from an index on, up to its end; what stood before it stays
abbrev pub Lays : ℕ → List ℕ → List ℕ → ℕ → List ℕ → Type 0
Lays at text old end new = (end ≡ at + length text) × (take end new ≡ take at old ++ text) × (length new ≡ length old)
