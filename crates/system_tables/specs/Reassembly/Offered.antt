-- Segments that may be offered, and counts over what a table keeps.
use Rattle.std.specs.Prelude.{ℕ, ◌+◌, ◌-◌, ◌≤◌, ◌<◌, List, length, map, filter, sum}
use Rattle.system_tables.specs.declared.reassembly.segment.Key.{Key}
use Rattle.system_tables.specs.declared.reassembly.segment.Segment.{Segment}
use Rattle.system_tables.specs.declared.reassembly.openings.Opening.{Opening}
use Rattle.system_tables.specs.Reassembly.Arrival.{same_key, data_len}

-- A segment that may be offered: its data follow its header, in a frame of 70,000 octets at most, and lie in the data of
-- its unit without being all of them; and its lifetime isn't over.
pub record MayCome (segment : Segment) : Type 0 where
  pub has_header : segment.shape.head_len ≤ segment.pdu.len
  pub few : length segment.pdu.frame ≤ 70000
  pub holds_header : segment.shape.head_len ≤ segment.shape.total
  pub within : segment.offset + (segment.pdu.len - segment.shape.head_len) ≤ data_len segment.shape
  pub is_part : segment.pdu.len - segment.shape.head_len < data_len segment.shape
  pub alive : 1 ≤ segment.life

-- how many openings have a key
abbrev pub openings_of : Key → List Opening → ℕ
openings_of key openings = length (filter (λ opening. same_key opening.key key) openings)

-- the octets of all frames in which segments came
abbrev pub total_size : List Segment → ℕ
total_size segments = sum (map (λ segment. length segment.pdu.frame) segments)
