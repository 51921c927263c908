-- How many pages each unit has.
use Rattle.std.specs.Prelude.{ℕ, ◌+◌, List, [], ◌∷◌}

-- the counts, and for how many there is room
pub record CountsState : Type 0 where
  pub items : List ℕ
  pub room : ℕ

-- where the pages of each unit begin, counted from a number
abbrev pub starts_from : ℕ → List ℕ → List ℕ
starts_from start [] = []
starts_from start (count ∷ counts) = start ∷ starts_from (start + count) counts
