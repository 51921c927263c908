-- The words of destinations and sources of Ethernet frames, and the line of a frame.
use Rattle.std.specs.Prelude.{ℕ, ◌==◌, if◌then◌else◌, List, ◌++◌, codes, length, Option, Some, None, Result, Ok, Err}
use Rattle.std.specs.Fmt.{decimal}
use Rattle.std.specs.Str.{bytes_eq}
use Rattle.pdus.specs.Nsap.Text.{hex_text, octets_of}
use Rattle.pdus.specs.declared.nsap.fault.NsapFault.{NsapFault}
use Rattle.frame_links.specs.PcapFrames.Groups.{end_systems, intermediate_systems}
use Rattle.frame_links.specs.PcapFrames.Making.{Frame}

-- the word of a destination
abbrev pub destination_word : List ℕ → List ℕ
destination_word to =
    if bytes_eq to end_systems then codes "es" else if bytes_eq to intermediate_systems then codes "is" else hex_text to

-- An OSI frame as a line: its second, destination, source and PDU. What `pcap-lines` writes of a frame, and `pcap-make`
-- makes one of.
abbrev pub frame_line : Frame → List ℕ
frame_line f =
    decimal f.seconds ++ (codes " " ++ (destination_word f.to ++ (codes " " ++ (hex_text f.from ++ (codes " " ++ hex_text f.pdu)))))

-- ---- words read

abbrev pub six_octets : Result (List ℕ) NsapFault → Option (List ℕ)
six_octets (Ok octets) = if length octets == 6 then Some octets else None
six_octets (Err fault) = None

-- the address of six octets that a word spells, two hexadecimal digits each; dots are skipped
abbrev pub station_of : List ℕ → Option (List ℕ)
station_of word = six_octets (octets_of word)

-- the destination that a word names: `es`, `is`, or an address
abbrev pub destination_of : List ℕ → Option (List ℕ)
destination_of word =
    if bytes_eq word (codes "es") then Some end_systems
    else if bytes_eq word (codes "is") then Some intermediate_systems else station_of word
