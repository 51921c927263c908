-- What a frame carries.
use Rattle.std.specs.Prelude.{ℕ, ◌==◌, ◌&&◌, if◌then◌else◌, List, ◌++◌, length, Option, None, Some, is_none, option_map, Bool}
use Rattle.hex.specs.Hex.{IsBytes}
use Rattle.clnp_plan.specs.PduHeader.Value.{SegmentationPart, PduValue}
use Rattle.clnp_plan.specs.PduHeader.Spelling.{segment_length}
use Rattle.clnp_plan.specs.PduHeader.Grammar.{BeginsWith}
use Rattle.clnp_plan.specs.PduHeader.Rules.{octet, header_of, refusal}
use Rattle.clnp_plan.specs.PduHeader.Reading.{value_of, body_of, rest_of}
use Rattle.pdus.specs.EsisPdus.Grammar as esis
use Rattle.pdus.specs.EsisPdus.Reading as esis_reading
use Rattle.pdus.specs.EsisPdus.Rules.{why_refused}
use Rattle.pdus.specs.EsisPdus.Spelling as esis_spelling
use Rattle.pdus.specs.EsisPdus.Value.{EsisValue}
use Rattle.clnp_machine.specs.Unit.{Outside, DataUnit, Packet, wire, IsCarriable}

-- A packet, or the value of an ES-IS PDU, and the octets that follow its PDU in the frame; or octets that spell no PDU.
pub data Content : Type 0 where
  Labelled : (packet : Packet) (following : List ℕ) → Content
  Esis : (value : EsisValue) (following : List ℕ) → Content
  Unlabelled : (octets : List ℕ) → Content

abbrev pub frame_of : Content → List ℕ
frame_of (Labelled packet following) = wire packet ++ following
frame_of (Esis value following) = esis_spelling.spelling value ++ following
frame_of (Unlabelled octets) = octets

-- octets, that begin with no PDU, neither of CLNP nor of ES-IS
pub record SpellsNothing (octets : List ℕ) : Type 0 where
  pub bytes : IsBytes octets
  pub clnp : (value : PduValue) (rest : List ℕ) → BeginsWith octets value rest → ⊥
  pub esis : (value : EsisValue) (rest : List ℕ) → esis.BeginsWith octets value rest → ⊥

-- what a frame may carry: a packet or an ES-IS value that a PDU can carry, or octets that don't begin with a PDU
abbrev pub IsCarried : Content → Type 0
IsCarried (Labelled packet following) = IsCarriable packet
IsCarried (Esis value following) = esis.IsPdu value
IsCarried (Unlabelled octets) = SpellsNothing octets

-- Frames from outside: nobody knows more of the unit than the PDU tells.

-- where the data of a PDU begin in those of its unit's initial PDU
abbrev pub first_place : Option SegmentationPart → ℕ
first_place None = 0
first_place (Some part) = part.offset

-- header and data of the initial PDU
abbrev pub whole_length : PduValue → Option SegmentationPart → ℕ
whole_length v None = segment_length v
whole_length v (Some part) = part.total

-- the part of a data unit that a PDU from outside has, as a unit by itself, which came at a moment
abbrev pub unit_from_outside : (number moment : ℕ) → PduValue → DataUnit
unit_from_outside number moment v =
    record {
      maker = Outside;
      number = number;
      made = moment;
      kind = v.kind;
      report = v.report;
      sealed = v.sealed;
      source = v.source;
      destination = v.destination;
      identifier = option_map (λ part. part.identifier) v.segmentation;
      options = v.options;
      lifetime = v.lifetime;
      first_position = first_place v.segmentation;
      total = whole_length v v.segmentation;
      octets = v.body;
    }

-- all of such a unit
abbrev pub packet_from_outside : (number moment : ℕ) → PduValue → Packet
packet_from_outside number moment v =
    record {
      unit = unit_from_outside number moment v;
      offset = first_place v.segmentation;
      length = length v.body;
      lifetime = v.lifetime;
      options = v.options;
      hops = 0;
    }

-- the value of the PDU with which octets begin
abbrev pub value_in : List ℕ → PduValue
value_in octets = value_of (header_of octets) (body_of octets)

-- whether octets begin as a PDU, and break no rule of PDUs
abbrev pub is_accepted : List ℕ → Bool
is_accepted octets = (octet octets 1 == 0x81) && is_none (refusal octets)

-- the value of the ES-IS PDU with which octets begin
abbrev pub esis_value_in : List ℕ → EsisValue
esis_value_in octets = esis_reading.value_of (header_of octets)

-- What octets from outside carry: a packet of the unit with a number that came at a moment, where they begin with a CLNP PDU;
-- an ES-IS value, where they begin with an ES-IS PDU.
abbrev pub content_of : (number moment : ℕ) → List ℕ → Content
content_of number moment octets =
    if is_accepted octets then Labelled (packet_from_outside number moment (value_in octets)) (rest_of octets)
    else if is_none (why_refused octets) then Esis (esis_value_in octets) (esis_reading.rest_of octets)
    else Unlabelled octets
