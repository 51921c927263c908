-- Kept segments in the order in which they came, each in an entry of its own, which is empty once its segment is taken out.
use Rattle.std.specs.Prelude.{ℕ, ◌+◌, ◌<◌, Bool, false, if◌then◌else◌, List, [], ◌∷◌, map, Option, None, Some, is_some, slice_get, slice_set}
use Rattle.system_tables.specs.declared.reassembly.segment.Key.{Key}
use Rattle.system_tables.specs.declared.reassembly.segment.Segment.{Segment}
use Rattle.system_tables.specs.Reassembly.Arrival.{same_key}

-- the entries, and for how many there is room
pub record EntriesState : Type 0 where
  pub entries : List (Option Segment)
  pub room : ℕ

abbrev pub and_present : Option Segment → List Segment → List Segment
and_present None others = others
and_present (Some segment) others = segment ∷ others

-- the segments that are there
abbrev pub present : List (Option Segment) → List Segment
present [] = []
present (entry ∷ others) = and_present entry (present others)

-- the segments, each in an entry
abbrev pub full : List Segment → List (Option Segment)
full segments = map (λ segment. Some segment) segments

-- the segment in an entry, if there is such an entry
abbrev pub inside : Option (Option Segment) → Option Segment
inside None = None
inside (Some entry) = entry

-- the segment that has an index
abbrev pub segment_by : Option ℕ → List (Option Segment) → Option Segment
segment_by None entries = None
segment_by (Some index) entries = inside (slice_get entries index)

-- the entries without the segment that has an index
abbrev pub emptied_at : Option ℕ → List (Option Segment) → List (Option Segment)
emptied_at None entries = entries
emptied_at (Some index) entries = slice_set entries index None

-- an index is one of so many entries, where there is one
abbrev pub IsWithin : ℕ → Option ℕ → Type 0
IsWithin count None = Unit {0}
IsWithin count (Some index) = index < count

-- whether an entry has a segment of a key
abbrev pub is_entry_of : Key → Option Segment → Bool
is_entry_of key None = false
is_entry_of key (Some segment) = same_key segment.key key

-- an entry, which is empty where its segment is one of a key
abbrev pub without_key : Key → Option Segment → Option Segment
without_key key entry = if is_entry_of key entry then None else entry

-- the entries without the segments of a key
abbrev pub emptied_of : Key → List (Option Segment) → List (Option Segment)
emptied_of key entries = map (without_key key) entries

-- where the segment of each entry stands once the empty ones are taken out, counted from a number
abbrev pub places_present : ℕ → List (Option Segment) → List ℕ
places_present next [] = []
places_present next (entry ∷ others) = next ∷ places_present (if is_some entry then next + 1 else next) others
