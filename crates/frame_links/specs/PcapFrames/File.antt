-- Files: a header and records, in one order of the octets of numbers.
use Rattle.std.specs.Prelude.{◌≡◌, ℕ, ◌^◌, ◌%◌, ◌<◌, ◌≤◌, Bool, if◌then◌else◌, List, ◌++◌, length}
use Rattle.std.specs.List.{AllByRecursion, flat_map}
use Rattle.frame_links.specs.declared.pcap_frames.order.Order.{Order}
use Rattle.frame_links.specs.PcapFrames.Numbers.{number}

-- the most octets of a frame that a record has
abbrev pub most_captured : ℕ
most_captured = 262144

-- ---- the header

-- What a header tells: whether fractions of seconds are nano- or microseconds, the zone, the accuracy and the snap
-- length, and the link type.
pub record Header : Type 0 where
  pub nanoseconds : Bool
  pub zone : ℕ
  pub accuracy : ℕ
  pub snap : ℕ
  pub link : ℕ

-- each number fits its four octets
pub record FitsHeader (h : Header) : Type 0 where
  pub zone : h.zone < 2 ^ 32
  pub accuracy : h.accuracy < 2 ^ 32
  pub snap : h.snap < 2 ^ 32
  pub link : h.link < 2 ^ 32

-- The link is an Ethernet: the low 16 bits of its type are 1. Zone, accuracy and snap length may be any numbers.
pub record IsHeader (h : Header) : Type 0 where
  pub fits : FitsHeader h
  pub ethernet : h.link % 2 ^ 16 ≡ 1

-- A1B2C3D4, or A1B23C4D where fractions of seconds are nanoseconds
abbrev pub magic : Bool → ℕ
magic nanoseconds = if nanoseconds then 2712812621 else 2712847316

-- a header as its 24 octets: the magic number, version 2.4, and what else it tells
abbrev pub header_octets : Order → Header → List ℕ
header_octets order h =
    number order 4 (magic h.nanoseconds)
    ++ (number order 2 2
    ++ (number order 2 4
    ++ (number order 4 h.zone ++ (number order 4 h.accuracy ++ (number order 4 h.snap ++ number order 4 h.link)))))

-- the octets are a header in this order
pub record IsHeaderOf (order : Order) (octets : List ℕ) : Type 0 where
  pub header : Header
  pub right : IsHeader header
  pub spelled : octets ≡ header_octets order header

-- ---- records

-- What a record tells: the seconds and the fraction of its time, the frame's octets that were captured, and how many
-- the frame had.
pub record Captured : Type 0 where
  pub seconds : ℕ
  pub fraction : ℕ
  pub original : ℕ
  pub octets : List ℕ

-- each number fits its four octets, and the octets aren't too many
pub record IsCaptured (c : Captured) : Type 0 where
  pub seconds : c.seconds < 2 ^ 32
  pub fraction : c.fraction < 2 ^ 32
  pub original : c.original < 2 ^ 32
  pub few : length c.octets ≤ most_captured

-- a record as its octets: seconds, fraction, captured length, original length, and the frame
abbrev pub captured_octets : Order → Captured → List ℕ
captured_octets order c =
    number order 4 c.seconds
    ++ (number order 4 c.fraction ++ (number order 4 (length c.octets) ++ (number order 4 c.original ++ c.octets)))

-- records, one behind the other
abbrev pub all_captured : Order → List Captured → List ℕ
all_captured order records = flat_map (captured_octets order) records

-- ---- files

-- The octets are a header and these records, and then the rest.
pub record Begins (order : Order) (octets : List ℕ) (records : List Captured) (rest : List ℕ) : Type 0 where
  pub header : Header
  pub right : IsHeader header
  pub each : AllByRecursion IsCaptured records
  pub spelled : octets ≡ header_octets order header ++ (all_captured order records ++ rest)

-- The file is a header and these records, and nothing else, in this order of the octets of each number.
pub record Pcap (order : Order) (records : List Captured) (file : List ℕ) : Type 0 where
  pub header : Header
  pub right : IsHeader header
  pub each : AllByRecursion IsCaptured records
  pub spelled : file ≡ header_octets order header ++ all_captured order records
