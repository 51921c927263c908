-- Marks of keys, and how many openings have each.
use Rattle.std.specs.Prelude.{◌≡◌, ℕ, ◌+◌, ◌-◌, ◌*◌, ◌%◌, ◌<◌, ◌==◌, List, length, filter, slice_index}
use Rattle.system_tables.specs.declared.reassembly.segment.Key.{Key}
use Rattle.system_tables.specs.declared.reassembly.openings.Opening.{Opening}

-- the mark of a key among so many
abbrev pub mark_of : ℕ → Key → ℕ
mark_of number key = (key.id + 67 * slice_index key.from (length key.from - 1)) % number

-- how many openings have a mark
abbrev pub marked : ℕ → ℕ → List Opening → ℕ
marked number mark openings = length (filter (λ opening. mark_of number opening.key == mark) openings)

-- the counts are those of the openings that have each mark
pub record AreCounted (openings : List Opening) (counts : List ℕ) : Type 0 where
  pub some : 0 < length counts
  pub each : (mark : ℕ) → mark < length counts → slice_index counts mark ≡ marked (length counts) mark openings
