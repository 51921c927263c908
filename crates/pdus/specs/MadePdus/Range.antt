-- Ranges of places, and when some ranges partition one.
use Rattle.std.specs.Prelude.{◌≡◌, ℕ, ◌+◌, ◌&&◌, nat_le, nat_lt, Bool, if◌then◌else◌, List, [], ◌∷◌}

-- `len` places from `from` on
pub record Range : Type 0 where
  pub from : ℕ
  pub len : ℕ

-- whether a place lies in a range
abbrev pub holds : ℕ → Range → Bool
holds place range = nat_le range.from place && nat_lt place (range.from + range.len)

-- in how many of the ranges a place lies
abbrev pub holders : ℕ → List Range → ℕ
holders place [] = 0
holders place (range ∷ others) = (if holds place range then 1 else 0) + holders place others

-- Each place of the whole lies in exactly one of the ranges, and every other place lies in none.
abbrev pub Partition : List Range → Range → Type 0
Partition ranges whole = (place : ℕ) → holders place ranges ≡ holders place (whole ∷ [])

-- the ranges stand one behind another, the first at the start and the last up to the end
abbrev pub Tiles : (start : ℕ) (ranges : List Range) (end : ℕ) → Type 0
Tiles start [] end = start ≡ end
Tiles start (range ∷ others) end = (range.from ≡ start) × Tiles (start + range.len) others end
