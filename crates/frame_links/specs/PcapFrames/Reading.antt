-- What octets are read as, and what a reader knows of the octets that it took.
use Rattle.std.specs.Prelude.{◌≡◌, ℕ, ◌+◌, ◌<◌, ◌≤◌, ◌⊎◌, List, [], ◌∷◌, ◌++◌, length, drop, Option, Some, None}
use Rattle.std.specs.Option.{option_to_list}
use Rattle.frame_links.specs.declared.pcap_frames.fault.PcapFault.{PcapFault}
use Rattle.frame_links.specs.declared.pcap_frames.fault.PcapFault.TheVariants.{Magic, Version, LinkType, RecordLength}
use Rattle.frame_links.specs.declared.pcap_frames.order.Order.{Order}
use Rattle.frame_links.specs.PcapFrames.Faults.{HasOtherLength, IsHeaderFault}
use Rattle.frame_links.specs.PcapFrames.File.{Begins, Captured, Pcap, most_captured}
use Rattle.frame_links.specs.PcapFrames.Numbers.{value}

-- the captured length that a record tells which begins so
abbrev pub captured_length : Order → List ℕ → ℕ
captured_length order part = value order 4 (drop 8 part)

-- Less than a whole record: fewer than twelve octets, or a length that isn't too great, and not so many octets.
pub record IsPart (order : Order) (part : List ℕ) : Type 0 where
  pub few : 12 ≤ length part → captured_length order part ≤ most_captured
  pub short : 12 ≤ length part → length part < 16 + captured_length order part

-- ---- how octets end

-- Behind the header and whole records; within the header or a record, of which so many octets came; or with a fault.
pub data Ending : Type 0 where
  Entire : Ending
  CutOff : (count : ℕ) → Ending
  Faulty : (fault : PcapFault) → Ending

-- less than a header
pub record IsCutHeader (octets : List ℕ) (records : List Captured) (count : ℕ) : Type 0 where
  pub none : records ≡ []
  pub few : length octets < 24
  pub counted : count ≡ length octets

-- a header, these records, and some octets of a further one
pub record IsCutRecord (octets : List ℕ) (records : List Captured) (count : ℕ) : Type 0 where
  pub order : Order
  pub part : List ℕ
  pub begins : Begins order octets records part
  pub partial : IsPart order part
  pub some : 0 < length part
  pub counted : count ≡ length part

-- the first 24 octets are no header
pub record IsFaultyHeader (octets : List ℕ) (records : List Captured) (fault : PcapFault) : Type 0 where
  pub none : records ≡ []
  pub front : List ℕ
  pub rest : List ℕ
  pub spelled : octets ≡ front ++ rest
  pub whole : length front ≡ 24
  pub wrong : IsHeaderFault front fault

-- a header, these records, and twelve octets of a further one whose captured length is too great
pub record IsFaultyRecord (octets : List ℕ) (records : List Captured) (fault : PcapFault) : Type 0 where
  pub order : Order
  pub captured : ℕ
  pub part : List ℕ
  pub rest : List ℕ
  pub begins : Begins order octets records (part ++ rest)
  pub wrong : HasOtherLength order part captured
  pub told : fault ≡ RecordLength captured

-- The octets up to their end, or up to the first fault, are these records: what follows a fault isn't read.
abbrev pub IsReadAs : List ℕ → List Captured → Ending → Type 0
IsReadAs octets records Entire = (order : Order) × Pcap order records octets
IsReadAs octets records (CutOff count) = IsCutHeader octets records count ⊎ IsCutRecord octets records count
IsReadAs octets records (Faulty fault) = IsFaultyHeader octets records fault ⊎ IsFaultyRecord octets records fault

-- ---- a reader

-- What a reader is in the midst of: a header or a record, of which these octets came; behind a record that came whole
-- with the last piece; or behind a fault.
pub data Reading : Type 0 where
  InHeader : (part : List ℕ) → Reading
  InRecord : (order : Order) (part : List ℕ) → Reading
  AtRecord : (order : Order) (captured : Captured) → Reading
  Stopped : (fault : PcapFault) → Reading

-- the record that came whole with the last piece, if one did
abbrev pub current_of : Reading → Option Captured
current_of (InHeader part) = None
current_of (InRecord order part) = None
current_of (AtRecord order captured) = Some captured
current_of (Stopped fault) = None

-- only octets of the header came
pub record StandsInHeader (part taken : List ℕ) (records : List Captured) : Type 0 where
  pub same : taken ≡ part
  pub few : length part < 24
  pub none : records ≡ []

-- a header came, these records, and some octets of the next or none
pub record StandsInRecord (order : Order) (part taken : List ℕ) (records : List Captured) : Type 0 where
  pub begins : Begins order taken records part
  pub partial : IsPart order part

-- a header came and these records, of which this is the last
pub record StandsAtRecord (order : Order) (captured : Captured) (taken : List ℕ) (records : List Captured) : Type 0 where
  pub before : List Captured
  pub last : records ≡ before ++ captured ∷ []
  pub begins : Begins order taken records []

-- The reader took these octets, and the records that came whole in them are these.
abbrev pub Stands : Reading → (taken : List ℕ) → (records : List Captured) → Type 0
Stands (InHeader part) taken records = StandsInHeader part taken records
Stands (InRecord order part) taken records = StandsInRecord order part taken records
Stands (AtRecord order captured) taken records = StandsAtRecord order captured taken records
Stands (Stopped fault) taken records = IsReadAs taken records (Faulty fault)

-- A reader takes these octets: whatever it took before, it has taken them behind that, and the record that comes
-- whole, if one does, is the next.
abbrev pub Takes : (old : Reading) → (octets : List ℕ) → (new : Reading) → Type 0
Takes old octets new =
    (taken : List ℕ) (records : List Captured) → Stands old taken records
    → Stands new (taken ++ octets) (records ++ option_to_list (current_of new))

-- ---- how the octets end that a reader took

-- how many octets of the header or of a record came, where those taken end within it; before the first octet that is
-- the header, of which none came
abbrev pub cut_of : Reading → Option ℕ
cut_of (InHeader part) = Some (length part)
cut_of (InRecord order []) = None
cut_of (InRecord order (first ∷ others)) = Some (length (first ∷ others))
cut_of (AtRecord order captured) = None
cut_of (Stopped Magic) = None
cut_of (Stopped (Version major minor)) = None
cut_of (Stopped (LinkType link)) = None
cut_of (Stopped (RecordLength captured)) = Some 12

-- how the octets taken end
abbrev pub ending_of : Reading → Ending
ending_of (InHeader part) = CutOff (length part)
ending_of (InRecord order []) = Entire
ending_of (InRecord order (first ∷ others)) = CutOff (length (first ∷ others))
ending_of (AtRecord order captured) = Entire
ending_of (Stopped fault) = Faulty fault
