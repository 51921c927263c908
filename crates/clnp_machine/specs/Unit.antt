-- Units, and the packets that travel: a packet is a labelled range of a unit, and has no octets of its own.
use Rattle.std.specs.Prelude.{ℕ, ◌+◌, ◌-◌, ◌≤◌, nat_le, nat_lt, Bool, false, if◌then◌else◌, List, [], ◌∷◌, length, map, take, drop, Option, None, Some, option_map}
use Rattle.clnp_plan.specs.Pdus.declared.pdu_header.kind.Kind.{Kind}
use Rattle.clnp_plan.specs.ClnpOptions.Parameter.{Parameter}
use Rattle.clnp_plan.specs.PduHeader.Value.{SegmentationPart, PduValue}
use Rattle.clnp_plan.specs.PduHeader.Spelling.{spelling, header_length}
use Rattle.clnp_plan.specs.PduHeader.Grammar.{IsPdu}
use Rattle.pdus.specs.MadePdus.Range.{Range}
use Rattle.pdus.specs.MadePdus.Cut.{data_room, ranges}

-- who made a unit: the system declared at a place, from 0, or somebody outside
pub data Maker : Type 0 where
  DeclaredAt : (place : ℕ) → Maker
  Outside : Maker

-- a data unit as its maker made it (ISO 8473, sections 6.1 and 6.7)
pub record DataUnit : Type 0 where
  pub maker : Maker
  -- among its maker's units, from 1
  pub number : ℕ
  -- the moment of its making
  pub made : ℕ
  pub kind : Kind
  -- an error report is wanted where it is discarded
  pub report : Bool
  -- its headers have a checksum
  pub sealed : Bool
  pub source : List ℕ
  pub destination : List ℕ
  -- the data unit identifier, where its PDUs have a segmentation part
  pub identifier : Option ℕ
  pub options : List Parameter
  pub lifetime : ℕ
  -- where its data begins in the initial PDU's data
  pub first_position : ℕ
  -- header and data of the initial PDU
  pub total : ℕ
  pub octets : List ℕ

-- a range of a unit's positions, on its way
pub record Packet : Type 0 where
  pub unit : DataUnit
  pub offset : ℕ
  pub length : ℕ
  pub lifetime : ℕ
  pub options : List Parameter
  -- how often it was forwarded
  pub hops : ℕ

-- the segmentation part of a packet's PDU
abbrev pub segmentation_of : Packet → Option SegmentationPart
segmentation_of p = option_map (λ i. record { identifier = i; offset = p.offset; total = p.unit.total }) p.unit.identifier

-- a packet's PDU, where more of the unit follows or not
abbrev pub value_with : Packet → Bool → PduValue
value_with p more =
    record {
      kind = p.unit.kind;
      lifetime = p.lifetime;
      report = p.unit.report;
      sealed = p.unit.sealed;
      more = more;
      destination = p.unit.destination;
      source = p.unit.source;
      segmentation = segmentation_of p;
      options = p.options;
      body = take p.length (drop (p.offset - p.unit.first_position) p.unit.octets);
    }

-- Whether data of the unit follows behind the packet's range.
abbrev pub more_follows : Packet → Option ℕ → Bool
more_follows p None = false
more_follows p (Some identifier) = nat_lt (p.offset + p.length) (p.unit.total - header_length (value_with p false))

-- the value of a packet's PDU
abbrev pub value_of : Packet → PduValue
value_of p = value_with p (more_follows p p.unit.identifier)

-- the octets of a packet's PDU
abbrev pub wire : Packet → List ℕ
wire p = spelling (value_of p)

-- the whole of a unit, as its maker sends it
abbrev pub whole_packet : DataUnit → Packet
whole_packet u =
    record { unit = u; offset = 0; length = length u.octets; lifetime = u.lifetime; options = u.options; hops = 0 }

-- the packet of a range of a packet's places
abbrev pub piece_of : Packet → Range → Packet
piece_of p range = record p { offset = p.offset + range.from; length = range.len }

-- the packets of the ranges into which the places of a packet are divided for an MTU
abbrev pub pieces : Packet → ℕ → List Packet
pieces p mtu = map (piece_of p) (ranges (data_room (header_length (value_of p)) mtu) p.length)

-- The packets into which one is cut for an MTU: it alone where it fits; none where it may not be
-- segmented (ISO 8473, section 6.7).
abbrev pub cut : Packet → ℕ → Option (List Packet)
cut p mtu =
    if nat_le (length (wire p)) mtu then Some (p ∷ []) else option_map (λ identifier. pieces p mtu) p.unit.identifier

-- a PDU can carry the packet, and its places are among those of its unit's octets
pub record IsCarriable (p : Packet) : Type 0 where
  pub pdu : IsPdu (value_of p)
  pub from : p.unit.first_position ≤ p.offset
  pub to : p.offset + p.length ≤ p.unit.first_position + length p.unit.octets
