-- The runs of each open unit, as its kept segments make them.
use Rattle.std.specs.Prelude.{◌≡◌, ℕ, ◌+◌, ◌*◌, ◌-◌, ◌^◌, ◌≤◌, ◌<◌, ◌&&◌, Bool, true, false, if◌then◌else◌, List, [], ◌∷◌, length, Option, None, Some, is_none, slice_get}
use Rattle.std.specs.List.{AllByRecursion, position_from}
use Rattle.system_tables.specs.declared.reassembly.runs.Run.{Run}
use Rattle.system_tables.specs.declared.reassembly.segment.Key.{Key}
use Rattle.system_tables.specs.declared.reassembly.segment.Segment.{Segment}
use Rattle.system_tables.specs.declared.reassembly.openings.Opening.{Opening}
use Rattle.system_tables.specs.declared.reassembly.table.TableLimits.{TableLimits}
use Rattle.system_tables.specs.Reassembly.Arrival.{arrival_of, data_len, has, same_key}
use Rattle.system_tables.specs.Reassembly.Entries.{EntriesState, emptied_at, present}
use Rattle.system_tables.specs.Reassembly.Offered.{MayCome, openings_of}
use Rattle.system_tables.specs.Reassembly.Runs.{AreJoined, RunsState, filler, pieces}
use Rattle.system_tables.specs.Reassembly.State.{segments_of}

-- whether an entry has a segment of a key that has the octet at a place
abbrev pub entry_gives : Key → ℕ → Option Segment → Bool
entry_gives key place None = false
entry_gives key place (Some segment) = same_key segment.key key && has place (arrival_of segment)

-- the index of the earliest segment of a key that has the octet at a place
abbrev pub giver : Key → ℕ → List (Option Segment) → Option ℕ
giver key place entries = position_from (entry_gives key place) 0 entries

-- 1 where no segment of a key has the octet at a place
abbrev pub lack : Key → ℕ → List (Option Segment) → ℕ
lack key place entries = if is_none (giver key place entries) then 1 else 0

-- each segment of an opening is the earliest that has the octet at some place of its unit
abbrev pub EachGives : List (Option Segment) → Opening → Type 0
EachGives entries opening =
    (index : ℕ) (segment : Segment) → slice_get entries index ≡ Some (Some segment) → same_key segment.key opening.key ≡ true
    → (place : ℕ) × (place < data_len opening.shape) × (giver opening.key place entries ≡ Some index)

-- The runs of an opening: they stand one behind the other over the unit's data, and each place is filled by the earliest
-- segment that has it. For k segments there are at most 2k - 1 pieces, and beside them holes between and around them.
pub record AreRunsOf (entries : List (Option Segment)) (opening : Opening) (runs : List Run) : Type 0 where
  pub joined : AreJoined 0 (data_len opening.shape) runs
  pub filled : (place : ℕ) → place < data_len opening.shape → filler place runs ≡ giver opening.key place entries
  pub few : length runs + 1 ≤ 2 * length (segments_of opening.key (present entries))
      + (lack opening.key 0 entries + lack opening.key (data_len opening.shape - 1) entries)
  pub few_pieces : 1 ≤ length (segments_of opening.key (present entries))
      → pieces runs + 1 ≤ 2 * length (segments_of opening.key (present entries))
  pub each : EachGives entries opening

-- a list of runs for each opening
pub record IsIndexOf (entries : List (Option Segment)) (openings : List Opening) (groups : List (List Run)) : Type 0 where
  pub number : length groups ≡ length openings
  pub each : (slot : ℕ) (opening : Opening) (runs : List Run) → slice_get openings slot ≡ Some opening
      → slice_get groups slot ≡ Some runs
      → AreRunsOf entries opening runs

-- no two openings have one key, each is of a unit with data, each segment has its opening and may come, and is the earliest
-- at some place
pub record MayBeIndexed (openings : List Opening) (entries : List (Option Segment)) : Type 0 where
  pub distinct : AllByRecursion (λ opening. openings_of opening.key openings ≡ 1) openings
  pub shaped : AllByRecursion (λ opening. opening.shape.head_len < opening.shape.total) openings
  pub owned : AllByRecursion (λ segment. openings_of segment.key openings ≡ 1) (present entries)
  pub came : AllByRecursion MayCome (present entries)
  pub entries_fit : length entries < 2 ^ 16
  pub each : AllByRecursion (EachGives entries) openings

-- The table's runs are those of its openings, and there is room for as many as there may be.
pub record IsIndexed (limits : TableLimits) (openings : List Opening) (segments : EntriesState) (index : RunsState) (named : ℕ) : Type 0 where
  pub index_is : IsIndexOf segments.entries openings index.groups
  pub slots : limits.slots ≤ index.slots
  pub room : 2 * limits.segments + limits.slots ≤ index.room
  pub within : length segments.entries ≤ segments.room
  pub entries_fit : segments.room < 2 ^ 16
  pub names : segments.room ≤ named

-- the entries without the segments that fill some runs
abbrev pub emptied_by : List Run → List (Option Segment) → List (Option Segment)
emptied_by [] entries = entries
emptied_by (run ∷ others) entries = emptied_by others (emptied_at run.by entries)

-- a segment has an octet of an opening's unit at a place where no other has one
abbrev pub HasNew : List (Option Segment) → Segment → Opening → Type 0
HasNew entries segment opening =
    (place : ℕ) × (place < data_len opening.shape) × (giver opening.key place entries ≡ None)
    × (segment.offset ≤ place) × (place < segment.offset + (arrival_of segment).len)

-- no two openings have one key, each is of a unit with data, and an entry that comes next has a segment with a new octet
pub record IsNext (entries : List (Option Segment)) (next : Option Segment) (openings : List Opening) : Type 0 where
  pub distinct : AllByRecursion (λ opening. openings_of opening.key openings ≡ 1) openings
  pub shaped : AllByRecursion (λ opening. opening.shape.head_len < opening.shape.total) openings
  pub gives : (segment : Segment) (slot : ℕ) (opening : Opening) → next ≡ Some segment → slice_get openings slot ≡ Some opening
      → opening.key ≡ segment.key → HasNew entries segment opening
