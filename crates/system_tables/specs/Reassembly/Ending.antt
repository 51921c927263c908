-- What is left of the kept segments when some of one key are taken out.
use Rattle.std.specs.Prelude.{◌==◌, ◌&&◌, not, Bool, true, false, if◌then◌else◌, List, [], ◌∷◌, filter, Option, option_map}
use Rattle.std.specs.List.{find}
use Rattle.pdus.specs.ClnpViews.Extent.{Extent}
use Rattle.system_tables.specs.declared.reassembly.segment.Key.{Key}
use Rattle.system_tables.specs.declared.reassembly.segment.Segment.{Segment}
use Rattle.system_tables.specs.Reassembly.Arrival.{same_key}
use Rattle.system_tables.specs.Reassembly.State.{segments_of}

-- the segments of all other keys
abbrev pub others_of : Key → List Segment → List Segment
others_of key segments = filter (λ segment. not (same_key segment.key key)) segments

abbrev pub is_empty : List Segment → Bool
is_empty [] = true
is_empty (segment ∷ others) = false

-- the segments without the last one of a key
abbrev pub without_last : Key → List Segment → List Segment
without_last key [] = []
without_last key (segment ∷ others) =
    if same_key segment.key key && is_empty (segments_of key others) then others else segment ∷ without_last key others

-- whether a segment is one of the key and begins its unit
abbrev pub is_start_of : Key → Segment → Bool
is_start_of key segment = same_key segment.key key && (segment.offset == 0)

-- the PDU of the earliest segment of a key that begins its unit
abbrev pub first_pdu : Key → List Segment → Option Extent
first_pdu key segments = option_map (λ segment. segment.pdu) (find (is_start_of key) segments)
