-- What is always so of a table.
use Rattle.std.specs.Prelude.{◌≡◌, ℕ, ◌≤◌, ◌<◌, ◌^◌, List, length}
use Rattle.std.specs.List.{AllByRecursion}
use Rattle.system_tables.specs.declared.reassembly.segment.Segment.{Segment}
use Rattle.system_tables.specs.declared.reassembly.table.TableLimits.{TableLimits}
use Rattle.system_tables.specs.declared.reassembly.openings.Opening.{Opening}
use Rattle.system_tables.specs.Reassembly.Offered.{MayCome, openings_of, total_size}

-- No two openings have one key, each is of a unit with data, each segment has its opening and may come,
-- and no number of the limits is passed, each of which fits its type.
pub record IsSound (limits : TableLimits) (openings : List Opening) (segments : List Segment) (held : ℕ) : Type 0 where
  pub distinct : AllByRecursion (λ opening. openings_of opening.key openings ≡ 1) openings
  pub shaped : AllByRecursion (λ opening. opening.shape.head_len < opening.shape.total) openings
  pub owned : AllByRecursion (λ segment. openings_of segment.key openings ≡ 1) segments
  pub came : AllByRecursion MayCome segments
  pub held_is : held ≡ total_size segments
  pub budget : held ≤ limits.budget
  pub few_segments : length segments ≤ limits.segments
  pub few_openings : length openings ≤ limits.slots
  pub budget_fits : limits.budget < 2 ^ 32
  pub segments_fit : limits.segments < 2 ^ 16
  pub slots_fit : limits.slots < 2 ^ 16
