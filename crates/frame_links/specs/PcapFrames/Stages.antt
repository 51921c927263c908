-- What a reader's stage and the octets that it holds mean.
use Rattle.std.specs.Prelude.{◌≡◌, ℕ, ◌+◌, ◌<◌, ◌≤◌, Bool, true, false, List, length, drop, Result, Ok, Err}
use Rattle.frame_links.specs.declared.pcap_frames.fault.PcapFault.{PcapFault}
use Rattle.frame_links.specs.declared.pcap_frames.fault.PcapFault.TheVariants.{RecordLength}
use Rattle.frame_links.specs.declared.pcap_frames.order.Order.{Order}
use Rattle.frame_links.specs.declared.pcap_frames.stage.Stage.{Stage}
use Rattle.frame_links.specs.declared.pcap_frames.stage.Stage.TheVariants.{Header, Part, Whole, Broken}
use Rattle.frame_links.specs.declared.pcap_frames.taking.Took.{Took}
use Rattle.frame_links.specs.PcapFrames.File.{Captured, most_captured}
use Rattle.frame_links.specs.PcapFrames.Numbers.{value}
use Rattle.frame_links.specs.PcapFrames.Reading.{IsPart, Reading, InHeader, InRecord, AtRecord, Stopped, captured_length}

-- what a whole record tells, whose octets these are
abbrev pub captured_in : Order → List ℕ → Captured
captured_in order octets =
    record {
      seconds = value order 4 octets;
      fraction = value order 4 (drop 4 octets);
      original = value order 4 (drop 12 octets);
      octets = drop 16 octets;
    }

-- a whole record, with the octets that its captured length says
pub record IsWhole (order : Order) (octets : List ℕ) : Type 0 where
  pub few : captured_length order octets ≤ most_captured
  pub size : length octets ≡ 16 + captured_length order octets

-- what a stage says of the octets that are held
abbrev pub IsHeld : Stage → List ℕ → Type 0
IsHeld Header part = length part < 24
IsHeld (Part order) part = IsPart order part
IsHeld (Whole order) part = IsWhole order part
IsHeld (Broken fault) part = Unit {0}

abbrev pub reading_of : Stage → List ℕ → Reading
reading_of Header part = InHeader part
reading_of (Part order) part = InRecord order part
reading_of (Whole order) part = AtRecord order (captured_in order part)
reading_of (Broken fault) part = Stopped fault

-- twelve octets of a record that tell a captured length that is too great
pub record HasTooGreat (order : Order) (part : List ℕ) (fault : PcapFault) : Type 0 where
  pub whole : length part ≡ 12
  pub many : most_captured < captured_length order part
  pub told : fault ≡ RecordLength (captured_length order part)

-- what the first octets of a record are, up to twelve of them: a part of one, or a fault
abbrev pub IsByLength : Order → List ℕ → Stage → Type 0
IsByLength order part Header = ⊥
IsByLength order part (Part told) = (told ≡ order) × IsPart order part
IsByLength order part (Whole told) = ⊥
IsByLength order part (Broken fault) = HasTooGreat order part fault

-- a fault was met
abbrev pub is_broken : Stage → Bool
is_broken Header = false
is_broken (Part order) = false
is_broken (Whole order) = false
is_broken (Broken fault) = true

-- what is told where so many octets were taken
abbrev pub answer_of : ℕ → Stage → Result Took PcapFault
answer_of count Header = Ok (record { octets = count; whole = false })
answer_of count (Part order) = Ok (record { octets = count; whole = false })
answer_of count (Whole order) = Ok (record { octets = count; whole = true })
answer_of count (Broken fault) = Err fault
