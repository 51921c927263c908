-- What a table keeps once a segment is kept.
use Rattle.std.specs.Prelude.{◌≡◌, ℕ, ◌+◌, ◌==◌, min, if◌then◌else◌, List, [], ◌∷◌, ◌++◌}
use Rattle.std.specs.List.{AllByRecursion}
use Rattle.system_tables.specs.declared.reassembly.segment.Segment.{Segment}
use Rattle.system_tables.specs.declared.reassembly.table.TableLimits.{TableLimits}
use Rattle.system_tables.specs.declared.reassembly.openings.Opening.{Opening}
use Rattle.system_tables.specs.Reassembly.Offered.{openings_of}
use Rattle.system_tables.specs.Reassembly.State.{MayKeep, TableState}

-- the opening that a segment makes
abbrev pub opening_by : TableLimits → ℕ → Segment → Opening
opening_by limits now segment =
    record { key = segment.key; shape = segment.shape; deadline = now + min limits.hold segment.life }

-- the openings with one for the segment's key, at the end, where there was none
abbrev pub openings_with : TableLimits → ℕ → Segment → List Opening → List Opening
openings_with limits now segment openings =
    if openings_of segment.key openings == 0 then openings ++ opening_by limits now segment ∷ [] else openings

-- the slots with this one at the end, where the segment's key had no opening
abbrev pub slots_with : Segment → ℕ → TableState → List ℕ
slots_with segment slot table =
    if openings_of segment.key table.openings == 0 then table.slots ++ slot ∷ [] else table.slots

abbrev pub with_opening : ℕ → Segment → ℕ → TableState → TableState
with_opening now segment slot table =
    record table {
      openings = openings_with table.limits now segment table.openings;
      slots = slots_with segment slot table;
    }

-- the table with an opening for the segment, which has this slot where it is new, and the segment at the end
abbrev pub with_segment : ℕ → Segment → ℕ → TableState → TableState
with_segment now segment slot table = record (with_opening now segment slot table) { segments = table.segments ++ segment ∷ [] }

-- The segment, for which there was room, is kept in addition to what the table kept, each segment of which had its opening.
pub record IsKept (now : ℕ) (segment : Segment) (before after : TableState) : Type 0 where
  pub may : MayKeep before segment
  pub owned : AllByRecursion (λ other. openings_of other.key before.openings ≡ 1) before.segments
  pub slot : ℕ
  pub is : after ≡ with_segment now segment slot before
