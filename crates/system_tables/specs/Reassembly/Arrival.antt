-- Segments of data units, as they came (ISO 8473, section 6.8).
use Rattle.std.specs.Prelude.{ℕ, ◌+◌, ◌-◌, ◌==◌, ◌&&◌, nat_le, nat_lt, Bool, List, Option, length, slice_index}
use Rattle.std.specs.List.{list_any, list_all, find, range_with_len}
use Rattle.std.specs.Str.{bytes_eq}
use Rattle.pdus.specs.ClnpViews.Extent.{Extent, seen}
use Rattle.system_tables.specs.declared.reassembly.segment.Key.{Key}
use Rattle.system_tables.specs.declared.reassembly.segment.Shape.{Shape}
use Rattle.system_tables.specs.declared.reassembly.segment.Segment.{Segment}

-- A segment as it came, with what it carries: its unit's key and shape, the places of its data in the unit's data, the
-- octets of the whole frame in which it came, and its lifetime in ticks of 500 ms.
pub record Arrival (C : Type 0) : Type 0 where
  pub key : Key
  pub shape : Shape
  pub offset : ℕ
  pub len : ℕ
  pub size : ℕ
  pub lifetime : ℕ
  pub carried : C

abbrev pub same_key : Key → Key → Bool
same_key a b = bytes_eq a.from b.from && (bytes_eq a.to b.to && (a.id == b.id))

abbrev pub same_shape : Shape → Shape → Bool
same_shape a b = a.total == b.total && ((a.head_len == b.head_len) && (a.kind == b.kind))

-- how many octets of data a unit of this shape has
abbrev pub data_len : Shape → ℕ
data_len shape = shape.total - shape.head_len

module _ {C : Type 0} where
  -- whether a segment has the octet at a place of its unit's data
  abbrev pub has : ℕ → Arrival C → Bool
  has place arrival = nat_le arrival.offset place && nat_lt place (arrival.offset + arrival.len)

  -- whether a place is covered by some segments
  abbrev pub is_covered : List (Arrival C) → ℕ → Bool
  is_covered arrivals place = list_any (has place) arrivals

  -- whether each of `len` places from `from` is covered
  abbrev pub are_covered : List (Arrival C) → (from len : ℕ) → Bool
  are_covered arrivals from len = list_all (is_covered arrivals) (range_with_len from len)

  -- the earliest of some segments that has the octet at a place
  abbrev pub earliest : List (Arrival C) → ℕ → Option (Arrival C)
  earliest arrivals place = find (has place) arrivals

-- a segment of the code, which carries its PDU
abbrev pub arrival_of : Segment → Arrival Extent
arrival_of segment =
    record {
      key = segment.key;
      shape = segment.shape;
      offset = segment.offset;
      len = segment.pdu.len - segment.shape.head_len;
      size = length segment.pdu.frame;
      lifetime = segment.life;
      carried = segment.pdu;
    }

-- the octet at a place of the unit's data, in a segment that has it: its data stand behind its header
abbrev pub octet_in : Arrival Extent → ℕ → ℕ
octet_in arrival place = slice_index (seen arrival.carried) (arrival.shape.head_len + (place - arrival.offset))
