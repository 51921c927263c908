-- The record in front of octets that are there whole.
use Rattle.std.specs.Prelude.{ℕ, ◌+◌, ◌&&◌, nat_le, Bool, if◌then◌else◌, List, length, take, Option, Some, None}
use Rattle.frame_links.specs.declared.pcap_frames.order.Order.{Order}
use Rattle.frame_links.specs.PcapFrames.File.{Captured, most_captured}
use Rattle.frame_links.specs.PcapFrames.Reading.{captured_length}
use Rattle.frame_links.specs.PcapFrames.Stages.{captured_in}

-- how many octets a record has that begins so
abbrev pub record_size : Order → List ℕ → ℕ
record_size order octets = 16 + captured_length order octets

-- a record stands in front: its captured length isn't too great, and all its octets are there
abbrev pub has_record : Order → List ℕ → Bool
has_record order octets =
    nat_le (captured_length order octets) most_captured && nat_le (record_size order octets) (length octets)

-- what the record in front tells, where one stands there
abbrev pub front_record : Order → List ℕ → Captured
front_record order octets = captured_in order (take (record_size order octets) octets)

-- the record in front, if one stands there whole
unfoldable pub first_in : Order → List ℕ → Option Captured
first_in order octets = if has_record order octets then Some (front_record order octets) else None
