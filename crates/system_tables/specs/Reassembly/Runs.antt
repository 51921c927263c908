-- Runs of places of a unit's data: holes, and pieces that kept segments fill.
use Rattle.std.specs.Prelude.{◌≡◌, ℕ, ◌<◌, ◌&&◌, not, max, min, nat_le, nat_lt, Bool, if◌then◌else◌, List, [], ◌∷◌, length, map, sum, filter, Option, None, Some, is_none, slice_get}
use Rattle.system_tables.specs.declared.reassembly.runs.Run.{Run}

-- the runs of each unit, and for how many units and runs there is room
pub record RunsState : Type 0 where
  pub groups : List (List Run)
  pub slots : ℕ
  pub room : ℕ

-- how many runs there are in all
abbrev pub total_runs : List (List Run) → ℕ
total_runs groups = sum (map (λ runs. length runs) groups)

abbrev pub is_hole : Run → Bool
is_hole run = is_none run.by

-- whether a run has a place
abbrev pub has_place : ℕ → Run → Bool
has_place place run = nat_le run.from place && nat_lt place run.to

-- the index of the segment that fills a place, where one does
abbrev pub filler : ℕ → List Run → Option ℕ
filler place [] = None
filler place (run ∷ others) = if has_place place run then run.by else filler place others

-- the runs stand one behind the other between two places, and each has a place
abbrev pub AreJoined : ℕ → ℕ → List Run → Type 0
AreJoined from to [] = from ≡ to
AreJoined from to (run ∷ others) = (run.from ≡ from) × ((run.from < run.to) × AreJoined run.to to others)

-- the runs stand one behind the other
abbrev pub AreInOrder : List Run → Type 0
AreInOrder runs = (low : ℕ) × (high : ℕ) × AreJoined low high runs

-- how many of the runs are pieces
abbrev pub pieces : List Run → ℕ
pieces runs = length (filter (λ run. not (is_hole run)) runs)

-- whether a run is a hole that has a place from `from` to the place before `to`
abbrev pub is_gap : ℕ → ℕ → Run → Bool
is_gap from to run = is_hole run && nat_lt (max run.from from) (min run.to to)

-- the one hole of a unit of which no place is filled
abbrev pub unfilled : ℕ → List Run
unfilled places = record { from = 0; to = places; by = None } ∷ []

-- whether a run is a hole with a place, which isn't its first
abbrev pub is_across : ℕ → Run → Bool
is_across place run = is_hole run && (nat_lt run.from place && nat_lt place run.to)

-- the runs, where a hole ends before a place
abbrev pub cut : ℕ → List Run → List Run
cut place [] = []
cut place (run ∷ others) =
    if is_across place run
    then record run { to = place } ∷ record run { from = place } ∷ others
    else run ∷ cut place others

-- a run, which is a piece of a segment where it is a hole between two places
abbrev pub marked : (from to by : ℕ) → Run → Run
marked from to by run = if is_hole run && (nat_le from run.from && nat_le run.to to) then record run { by = Some by } else run

-- the runs after a segment came that has the places from `from` to the place before `to`
abbrev pub filled : (from to by : ℕ) → List Run → List Run
filled from to by runs = map (marked from to by) (cut to (cut from runs))

-- other indices of the segments: those that stand at theirs
abbrev pub named_in : List ℕ → Option ℕ → Option ℕ
named_in names None = None
named_in names (Some by) = slice_get names by

abbrev pub renamed : List ℕ → Run → Run
renamed names run = record run { by = named_in names run.by }

-- the index of the segment that fills the first place, where one does
abbrev pub first_by : List Run → Option ℕ
first_by [] = None
first_by (run ∷ others) = run.by
