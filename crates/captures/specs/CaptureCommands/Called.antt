-- What the octets of a source call for.
use Rattle.std.specs.Prelude.{◌≡◌, ℕ, ◌+◌, nat_lt, Bool, true, false, if◌then◌else◌, List, length, take}
use Rattle.frame_links.specs.declared.pcap_frames.fault.PcapFault.{PcapFault}
use Rattle.frame_links.specs.declared.pcap_frames.fault.PcapFault.TheVariants.{Magic, Version, LinkType, RecordLength}
use Rattle.frame_links.specs.PcapFrames.File.{Captured}
use Rattle.frame_links.specs.PcapFrames.Reading.{Ending, Entire, CutOff, Faulty, IsReadAs}
use Rattle.clnp_base.specs.declared.command_base.status.Status.{Status}
use Rattle.clnp_base.specs.declared.command_base.status.Status.TheVariants.{Done, TooLong, BadInput}
use Rattle.clnp_base.specs.CommandBase.Codes.{cut_file_code, link_type_code, magic_code, record_length_code, version_code}

-- the most octets of a file
abbrev pub most_octets : ℕ
most_octets = 1073741824

-- The answer to a fault behind so many whole records: the number of the record at fault, from 1, or 0 for the header; and
-- the code.
abbrev pub fault_status : (whole : ℕ) → PcapFault → Status
fault_status whole Magic = BadInput 0 magic_code
fault_status whole (Version major minor) = BadInput 0 version_code
fault_status whole (LinkType link) = BadInput 0 link_type_code
fault_status whole (RecordLength captured) = BadInput (whole + 1) record_length_code

-- the number of the record within which so many octets end behind so many whole records, or 0 where they end within the
-- header, which has 24 octets
abbrev pub cut_place : (size whole : ℕ) → ℕ
cut_place size whole = if nat_lt size 24 then 0 else whole + 1

-- the answer to so many octets that are all, with so many whole records in them
abbrev pub whole_status : (size whole : ℕ) → Ending → Status
whole_status size whole Entire = Done
whole_status size whole (CutOff count) = BadInput (cut_place size whole) cut_file_code
whole_status size whole (Faulty fault) = fault_status whole fault

-- the answer where more octets follow than a file may have
abbrev pub long_status : (whole : ℕ) → Ending → Status
long_status whole Entire = TooLong
long_status whole (CutOff count) = TooLong
long_status whole (Faulty fault) = fault_status whole fault

-- the answer to all octets, where those within the limit are read as these records and end so: their first fault, or
-- that they are too many, or how they end
abbrev pub status_read : List ℕ → List Captured → Ending → Status
status_read octets records ending =
    if nat_lt most_octets (length octets) then long_status (length records) ending
    else whole_status (length octets) (length records) ending

-- the octets of a source call for this answer
pub record Calls (octets : List ℕ) (status : Status) : Type 0 where
  pub records : List Captured
  pub ending : Ending
  pub read : IsReadAs (take most_octets octets) records ending
  pub answer : status ≡ status_read octets records ending

-- whether octets end with a fault
abbrev pub has_fault : Ending → Bool
has_fault Entire = false
has_fault (CutOff count) = false
has_fault (Faulty fault) = true
