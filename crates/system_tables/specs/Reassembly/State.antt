-- What a table keeps, and the buffers that it stands for.
use Rattle.std.specs.Prelude.{◌≡◌, ℕ, ◌+◌, ◌≤◌, ◌<◌, true, false, Bool, List, length, map, filter, Option, Some, slice_get}
use Rattle.std.specs.List.{AllByRecursion, position_from}
use Rattle.pdus.specs.ClnpViews.Extent.{Extent}
use Rattle.system_tables.specs.declared.reassembly.segment.Key.{Key}
use Rattle.system_tables.specs.declared.reassembly.segment.Segment.{Segment}
use Rattle.system_tables.specs.declared.reassembly.table.TableLimits.{TableLimits}
use Rattle.system_tables.specs.declared.reassembly.openings.Opening.{Opening}
use Rattle.system_tables.specs.declared.reassembly.table.Accept.{Accept}
use Rattle.system_tables.specs.declared.reassembly.table.Accept.TheVariants as accept
use Rattle.system_tables.specs.Reassembly.Arrival.{arrival_of, same_key}
use Rattle.system_tables.specs.Reassembly.Offered.{openings_of, total_size}
use Rattle.system_tables.specs.Reassembly.Buffer.{Buffer, Answer, Held, Whole, Interference, Repeat, NoSlot, Crowded, Many, is_whole, buffer_of, due}

-- its numbers, the open buffers in the order of their opening, the slot of each of them in the same order, and the kept
-- segments of all of them as they came
pub record TableState : Type 0 where
  pub limits : TableLimits
  pub openings : List Opening
  pub slots : List ℕ
  pub segments : List Segment

-- the kept segments of a key
abbrev pub segments_of : Key → List Segment → List Segment
segments_of key segments = filter (λ segment. same_key segment.key key) segments

-- what the table keeps of a buffer beside its segments
abbrev pub opening_of : Buffer Extent → Opening
opening_of buffer = record { key = buffer.key; shape = buffer.shape; deadline = buffer.deadline }

-- the table keeps the segments of this buffer, in the order in which they came
abbrev pub KeepsSegments : TableState → Buffer Extent → Type 0
KeepsSegments table buffer = buffer.kept ≡ map arrival_of (segments_of buffer.key table.segments)

-- a table stands for these buffers
pub record Stands (table : TableState) (buffers : List (Buffer Extent)) : Type 0 where
  pub openings : table.openings ≡ map opening_of buffers
  pub segments : AllByRecursion (KeepsSegments table) buffers

-- the opening at a place has this key
pub record IsAt (table : TableState) (place : ℕ) (key : Key) : Type 0 where
  pub opening : Opening
  pub stands_at : slice_get table.openings place ≡ Some opening
  pub key_is : opening.key ≡ key

-- a slot of the table is that of the buffer of this key
pub record Names (table : TableState) (slot : ℕ) (key : Key) : Type 0 where
  pub place : ℕ
  pub has_slot : slice_get table.slots place ≡ Some slot
  pub is_at : IsAt table place key

-- a buffer that is there before and after has the same slot
abbrev pub SlotsStay : TableState → TableState → Type 0
SlotsStay before after =
    (slot : ℕ) (key : Key) (buffers : List (Buffer Extent)) (buffer : Buffer Extent) → Names before slot key
    → Stands after buffers
    → buffer_of key buffers ≡ Some buffer → Names after slot key

-- a slot of the table is that of a buffer which is whole
pub record IsWholeSlot (table : TableState) (slot : ℕ) : Type 0 where
  pub buffers : List (Buffer Extent)
  pub stands : Stands table buffers
  pub buffer : Buffer Extent
  pub is_there : buffer_of buffer.key buffers ≡ Some buffer
  pub named : Names table slot buffer.key
  pub whole : is_whole buffer ≡ true

-- the time of no buffer has ended, and none is whole
pub record AreReady (now : ℕ) (buffers : List (Buffer Extent)) : Type 0 where
  pub none_due : due now buffers ≡ Option.None
  pub none_whole : AllByRecursion (λ buffer. is_whole buffer ≡ false) buffers

pub record IsReady (now : ℕ) (table : TableState) : Type 0 where
  pub buffers : List (Buffer Extent)
  pub stands : Stands table buffers
  pub ready : AreReady now buffers

-- the place of the opening of a key
abbrev pub place_of : Key → List Opening → Option ℕ
place_of key openings = position_from (λ opening. same_key opening.key key) 0 openings

-- there is room for a segment that is to be kept, and the buffer of its key is that of a unit of its shape
pub record MayKeep (table : TableState) (segment : Segment) : Type 0 where
  pub within_budget : total_size table.segments + length segment.pdu.frame ≤ table.limits.budget
  pub few_segments : length table.segments < table.limits.segments
  pub few_openings : openings_of segment.key table.openings ≡ 0 → length table.openings < table.limits.slots
  pub same_unit : (slot : ℕ) (opening : Opening) → place_of segment.key table.openings ≡ Some slot
      → slice_get table.openings slot ≡ Some opening → opening.shape ≡ segment.shape

-- what the code's answer says
abbrev pub said : Accept → Answer
said accept.Held = Held
said accept.Repeat = Repeat
said (accept.Whole slot) = Whole
said (accept.Interference kept offered) = Interference kept offered
said (accept.NoSlot live) = NoSlot live
said (accept.Crowded held size) = Crowded held size
said (accept.Many kept) = Many kept

-- whether the segment was kept
abbrev pub was_kept : Accept → Bool
was_kept accept.Held = true
was_kept (accept.Whole slot) = true
was_kept _ = false
