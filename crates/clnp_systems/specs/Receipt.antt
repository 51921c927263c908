-- PDUs that come: what their units are for, whether one is all of its unit, the segment of the code that it is, and the arrival of the model.
use Rattle.std.specs.Prelude.{◌≡◌, ℕ, ◌+◌, ◌==◌, ◌&&◌, not, if◌then◌else◌, Bool, List, length, Option, None, Some}
use Rattle.clnp_machine.specs.ClnpViews.Extent.{Extent, part, seen, whole}
use Rattle.clnp_machine.specs.Pdus.declared.pdu_header.pdu.Pdu.{Pdu}
use Rattle.clnp_machine.specs.Pdus.declared.pdu_header.pdu.SegPart.{SegPart}
use Rattle.clnp_machine.specs.Pdus.declared.pdu_header.kind.Kind.{Kind}
use Rattle.clnp_machine.specs.Pdus.declared.pdu_header.kind.Kind.TheVariants.{Dt, Er, Erq, Erp}
use Rattle.clnp_machine.specs.PduHeader.Spelling.{type_code}
use Rattle.clnp_machine.specs.ClnpOptions.Parameter.{Parameter}
use Rattle.clnp_machine.specs.MadePdus.Told.{cause_in, place_in}
use Rattle.clnp_machine.specs.SystemTables.declared.reassembly.segment.Segment.{Segment}
use Rattle.clnp_machine.specs.Reassembly.Arrival.{Arrival, arrival_of, octet_in}
use Rattle.clnp_machine.specs.Reassembly.Buffer.{Answer, Buffer, Held, Whole, Interference, Repeat, NoSlot, Crowded, Many, buffer_of, data_of}
use Rattle.clnp_machine.specs.Reassembly.Mapped.{map_arrival}
use Rattle.clnp_machine.specs.Reassembly.State.{Names, Stands, TableState}
use Rattle.clnp_machine.specs.Unit.{Packet, wire}
use Rattle.clnp_machine.specs.Local.{IsAsOffered}
use Rattle.clnp_machine.specs.System.{SystemState}
use Rattle.clnp_systems.specs.declared.purpose.Purpose.{Purpose}
use Rattle.clnp_systems.specs.declared.purpose.Purpose.TheVariants.{Data, Report, Request, Reply}

-- what a unit of a kind is for, where the PDU that makes it whole has these options
abbrev pub purpose_of : Kind → List Parameter → Purpose
purpose_of Dt options = Data
purpose_of Er options = Report (cause_in options) (place_in options)
purpose_of Erq options = Request
purpose_of Erp options = Reply

-- the segmentation part of a PDU that isn't all of its unit
abbrev pub segment_part : Option SegPart → Bool → Option SegPart
segment_part None more = None
segment_part (Some part) more = if (part.offset == 0) && not more then None else Some part

-- the segment that a PDU at the front of a frame is
abbrev pub segment_in : List ℕ → Pdu → SegPart → Segment
segment_in frame pdu seg =
    record {
      key = record { from = pdu.from; to = pdu.to; id = seg.id };
      shape = record { total = seg.total; head_len = length pdu.head.now; kind = type_code pdu.kind };
      offset = seg.offset;
      life = pdu.life;
      pdu = part 0 (length pdu.head.now + length pdu.body.now) (whole frame);
    }

-- a segment of the code shows the very octets that the packet of an arrival spells
pub record IsShown (segment : Segment) (arrival : Arrival Packet) : Type 0 where
  pub as_offered : IsAsOffered arrival
  pub shown : map_arrival seen (arrival_of segment) ≡ map_arrival wire arrival

-- these octets are the data of a whole unit, whose buffer has this slot of the table
pub record AreDataAt (table : TableState) (slot : ℕ) (octets : List ℕ) : Type 0 where
  pub buffers : List (Buffer Extent)
  pub stands : Stands table buffers
  pub buffer : Buffer Extent
  pub is_there : buffer_of buffer.key buffers ≡ Some buffer
  pub named : Names table slot buffer.key
  pub octets_are : octets ≡ data_of octet_in buffer

-- a system whose buffers are these once it kept a segment, by the answer to that
abbrev pub with_answer : SystemState → List (Buffer Packet) → Answer → SystemState
with_answer s kept Held = record s { buffers = kept }
with_answer s kept Whole = record s { buffers = kept }
with_answer s kept (Interference there offered) = s
with_answer s kept Repeat = s
with_answer s kept (NoSlot live) = s
with_answer s kept (Crowded held size) = s
with_answer s kept (Many segments) = s
