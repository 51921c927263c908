-- The moments of a clock.
use Rattle.std.specs.Prelude.{◌≡◌, ℕ, ◌+◌, ◌^◌, ◌<◌, ◌≤◌, List, [], ◌∷◌, length, slice_index, Option, Some, None}

-- the first of the moments that a clock will give
abbrev pub first_of : List ℕ → ℕ
first_of [] = 0
first_of (moment ∷ moments) = moment

-- those that it will give behind that one: the last of them stays for ever
abbrev pub rest_of : List ℕ → List ℕ
rest_of [] = []
rest_of (moment ∷ []) = moment ∷ []
rest_of (moment ∷ next ∷ moments) = next ∷ moments

-- The moment is the first of those that the clock will give, where it tells them, and is taken off where another follows.
abbrev pub GivesMoment : Option (List ℕ) → Option (List ℕ) → ℕ → Type 0
GivesMoment None after moment = Unit {0}
GivesMoment (Some moments) after moment = (moment ≡ first_of moments) × (after ≡ Some (rest_of moments))

-- moments that a clock may give, one after the other: there is one, they don't fall, and each is below 2 ^ 62
pub record AreMoments (moments : List ℕ) : Type 0 where
  pub some : 0 < length moments
  pub rising : (i : ℕ) → i + 1 < length moments → slice_index moments i ≤ slice_index moments (i + 1)
  pub early : (i : ℕ) → slice_index moments i < 2 ^ 62

-- what is seen of a clock in memory: the moments that it will give, and the last one that it gave
pub record Moments : Type 0 where
  pub left : List ℕ
  pub last : ℕ

-- The clock gives the moment at a place next, which isn't below the last one that it gave.
pub record IsAt (at last : ℕ) (moments : List ℕ) : Type 0 where
  pub told : AreMoments moments
  pub within : at < length moments
  pub later : last ≤ slice_index moments at
