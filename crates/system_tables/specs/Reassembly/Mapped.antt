-- Segments and buffers that carry something else in the same places: what each segment carries is mapped by a function.
use Rattle.std.specs.Prelude.{List, map}
use Rattle.system_tables.specs.Reassembly.Arrival.{Arrival}
use Rattle.system_tables.specs.Reassembly.Buffer.{Buffer}

module _ {C D : Type 0} where
  abbrev pub map_arrival : (C → D) → Arrival C → Arrival D
  map_arrival f arrival =
      record {
        key = arrival.key;
        shape = arrival.shape;
        offset = arrival.offset;
        len = arrival.len;
        size = arrival.size;
        lifetime = arrival.lifetime;
        carried = f arrival.carried;
      }

  abbrev pub map_buffer : (C → D) → Buffer C → Buffer D
  map_buffer f buffer =
      record {
        key = buffer.key;
        shape = buffer.shape;
        opened = buffer.opened;
        deadline = buffer.deadline;
        kept = map (map_arrival f) buffer.kept;
      }

  abbrev pub map_buffers : (C → D) → List (Buffer C) → List (Buffer D)
  map_buffers f buffers = map (map_buffer f) buffers
