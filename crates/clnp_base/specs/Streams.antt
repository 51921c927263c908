-- What reading from a source and writing to a sink do to their octets, where they are told, and to their counts of faults.
use Rattle.std.specs.Prelude.{◌≡◌, ℕ, ◌+◌, ◌-◌, ◌^◌, ◌≤◌, min, List, ◌++◌, length, take, Option}
use Rattle.std.specs.Io.KnownBytes.{Appends, Consumes, IsAtEnd}

-- a count that went up by one; it stays at 2 ^ 64 - 1
abbrev pub count_up : ℕ → ℕ
count_up count = min (count + 1) (2 ^ 64 - 1)

-- The count of faults rose. One that stands at 2 ^ 64 - 1 is read as having risen.
abbrev pub Rose : ℕ → ℕ → Type 0
Rose before now = count_up before ≤ now

-- Octets came from what was left, and were appended to the buffer.
pub record Pours (old new : List ℕ) (before after : Option (List ℕ)) : Type 0 where
  pub came : List ℕ
  pub appended : new ≡ old ++ came
  pub consumed : Consumes before after came

-- So many octets came from what was left, and were appended to the buffer.
pub record PoursCount (count : ℕ) (old new : List ℕ) (before after : Option (List ℕ)) : Type 0 where
  pub pours : Pours old new before after
  pub counted : length pours.came ≡ count

-- All octets that were left came, at most `limit` of them: the source is at its end.
pub record PoursAll (limit : ℕ) (old new : List ℕ) (before after : Option (List ℕ)) : Type 0 where
  pub pours : Pours old new before after
  pub within : length pours.came ≤ limit
  pub at_end : IsAtEnd after

-- At most `limit` octets came.
pub record PoursWithin (limit : ℕ) (old new : List ℕ) (before after : Option (List ℕ)) : Type 0 where
  pub pours : Pours old new before after
  pub within : length pours.came ≤ limit

-- More than `limit` octets came: one more, and no further one.
pub record PoursMore (limit : ℕ) (old new : List ℕ) (before after : Option (List ℕ)) : Type 0 where
  pub pours : Pours old new before after
  pub beyond : length pours.came ≡ limit + 1

-- The first octets of the piece were appended, `count` of them.
pub record AppendsFront (old new : Option (List ℕ)) (piece : List ℕ) : Type 0 where
  pub count : ℕ
  pub within : count ≤ length piece
  pub appends : Appends old new (take count piece)
