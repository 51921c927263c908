-- Octets that lie at the front of a fixed number of cells, with zeros behind them.
use Rattle.std.specs.Prelude.{◌≡◌, ℕ, ◌-◌, ◌≤◌, ◌++◌, List, length, take, drop, replicate}
use Rattle.std.proofs.lemmas.List.{length-take-le, take-append-drop}

-- the first `len` of `most` cells are the octets, and the others are 0
pub record IsInline (most len : ℕ) (cells : List ℕ) : Type 0 where
  pub within : len ≤ most
  pub few : most ≤ 255
  pub room : length cells ≡ most
  pub zeros : drop len cells ≡ replicate (most - len) 0

-- the octets give their number back
pub len_again : (most len : ℕ) (cells : List ℕ) → IsInline most len cells → length (take len cells) ≡ len
len_again most len cells h = length-take-le len cells (let e = h.room in rw e h.within)

-- the octets give the cells back
pub cells_again : (most len : ℕ) (cells : List ℕ) → IsInline most len cells
    → take len cells ++ replicate (most - length (take len cells)) 0 ≡ cells
cells_again most len cells h = rw (len_again most len cells h, ← h.zeros) (take-append-drop len cells)
