-- How far apart the uses of one identifier are.
use Rattle.std.specs.Prelude.{ℕ, ◌≡◌, ◌+◌, ◌≤◌, List, [], ◌∷◌, AllPairs}
use Rattle.clnp_machine.specs.Identifiers.{Use, Identifiers, drawn}

-- an identifier that was used before was used at least so many ticks before
abbrev pub IsLater : (reuse : ℕ) (earlier later : Use) → Type 0
IsLater reuse earlier later = earlier.identifier ≡ later.identifier → earlier.moment + reuse ≤ later.moment

-- two uses of one identifier are at least so many ticks apart
abbrev pub AreApart : ℕ → List Use → Type 0
AreApart reuse uses = AllPairs (IsLater reuse) uses

-- the identifiers after one was asked for at each of these moments
abbrev pub drawn_at : List ℕ → Identifiers → Identifiers
drawn_at [] ids = ids
drawn_at (now ∷ later) ids = drawn_at later (drawn now ids)
