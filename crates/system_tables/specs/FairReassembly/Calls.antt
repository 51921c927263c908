-- What the calls do to a table, and what comes of a frame.
use Rattle.std.specs.Prelude.{◌≡◌, ◌≢◌, ◌≤◌, ℕ, false, List, Option, None, Some, option_map}
use Rattle.pdus.specs.ClnpViews.Extent.{Extent}
use Rattle.pdus.specs.PduHeader.Value.{PduValue, SegmentationPart}
use Rattle.system_tables.specs.declared.reassembly.segment.Key.{Key}
use Rattle.system_tables.specs.declared.reassembly.segment.Segment.{Segment}
use Rattle.system_tables.specs.declared.reassembly.table.Accept.{Accept}
use Rattle.system_tables.specs.declared.reassembly.table.Accept.TheVariants as accept
use Rattle.system_tables.specs.declared.reassembly.table.Expired.{Expired}
use Rattle.system_tables.specs.declared.reassembly.table.SlotNo.{SlotNo}
use Rattle.system_tables.specs.Reassembly.Arrival.{arrival_of}
use Rattle.system_tables.specs.Reassembly.Buffer as buffer
use Rattle.system_tables.specs.Reassembly.Buffer.{Buffer}
use Rattle.system_tables.specs.Reassembly.NoWhole.{HasNoWhole, IsCompleted}
use Rattle.system_tables.specs.Reassembly.State.{IsReady, IsWholeSlot, Names, Stands, TableState, said, was_kept}
use Rattle.system_tables.specs.declared.fair_reassembly.fair.Took.{Took}
use Rattle.system_tables.specs.declared.fair_reassembly.fair.Took.TheVariants.{Dead, Alone, Answered}
use Rattle.system_tables.specs.FairReassembly.Coming.{part_of, segment_in}
use Rattle.system_tables.specs.FairReassembly.Tables.{ChangesTable, FairState, place_of}

-- The buffer whose time has ended at a moment, the one that is due, was taken out of a table and told.
pub record Expires (now : ℕ) (told : Option Expired) (old new : TableState) : Type 0 where
  pub ended : (buffers : List (Buffer Extent)) → Stands old buffers
      → told ≡ option_map (λ ended. record { key = ended.key; first = buffer.first_carried ended }) (buffer.due now buffers)
  pub stands : (buffers : List (Buffer Extent)) → Stands old buffers
      → Stands new (buffer.without_due (buffer.due now buffers) buffers)
  pub none_whole : HasNoWhole old → HasNoWhole new
  pub ready : HasNoWhole old → told ≡ None → IsReady now new
  pub limits : new.limits ≡ old.limits

-- A segment was offered to a table at a moment, with this answer.
pub record Accepts (now : ℕ) (segment : Segment) (told : Accept) (old new : TableState) : Type 0 where
  pub answered : (buffers : List (Buffer Extent)) → Stands old buffers
      → said told ≡ buffer.answer old.limits now (arrival_of segment) buffers
  pub stands : (buffers : List (Buffer Extent)) → Stands old buffers
      → Stands new (buffer.after old.limits now (arrival_of segment) buffers)
  pub slot : (slot : SlotNo) → told ≡ accept.Whole slot → Names new slot.0 segment.key
  -- a slot that it gives is that of the only whole buffer, which isn't whole without this segment
  pub whole : (slot : SlotNo) → told ≡ accept.Whole slot → IsWholeSlot new slot.0
  pub completed : (slot : SlotNo) → told ≡ accept.Whole slot → IsCompleted new slot.0
  pub none_whole : ((slot : SlotNo) → told ≢ accept.Whole slot) → HasNoWhole new
  pub same : was_kept told ≡ false → new ≡ old
  pub limits : new.limits ≡ old.limits

-- The whole buffer at a slot was taken out of a table.
pub record Releases (slot : ℕ) (old new : TableState) : Type 0 where
  pub stands : (buffers : List (Buffer Extent)) (key : Key) → Stands old buffers → Names old slot key
      → Stands new (buffer.without key buffers)
  pub none_whole : IsCompleted old slot → HasNoWhole new
  pub limits : new.limits ≡ old.limits

-- a PDU that is a segment of its unit was offered at a moment to the table at this place, that of its source
pub record IsOffered (now : ℕ) (frame : List ℕ) (v : PduValue) (before after : FairState) (place : ℕ) (told : Accept) : Type 0 where
  pub alive : 1 ≤ v.lifetime
  pub found : SegmentationPart
  pub stands_in : v.segmentation ≡ Some found
  pub is_part : part_of v ≡ Some found
  pub place_is : place ≡ place_of before.sources v.source
  pub offered : ChangesTable place before after (Accepts now (segment_in frame v found) told)

-- What comes of the PDU of a value, which stands at the front of a frame: it is dead where its lifetime is over; else it is all
-- of its unit where it isn't a part of it; else it is offered to the table of its source.
abbrev pub Takes : ℕ → List ℕ → PduValue → FairState → FairState → Took → Type 0
Takes now frame v before after Dead = (v.lifetime ≡ 0) × (after ≡ before)
Takes now frame v before after Alone = (1 ≤ v.lifetime) × (part_of v ≡ None) × (after ≡ before)
Takes now frame v before after (Answered place told) = IsOffered now frame v before after place told
