-- Files that are made of frames, and the frames in records.
use Rattle.std.specs.Prelude.{ℕ, ◌-◌, ◌^◌, ◌<◌, ◌≤◌, false, List, [], ◌∷◌, ◌++◌, length, map, replicate, Option, Some, None}
use Rattle.std.specs.List.{filter_map}
use Rattle.hex.specs.Hex.{IsBytes}
use Rattle.frame_links.specs.declared.pcap_frames.order.Order.TheVariants.{HighFirst}
use Rattle.frame_links.specs.PcapFrames.File.{Captured, Header, all_captured, header_octets, most_captured}
use Rattle.frame_links.specs.PcapFrames.Frames.{IsOsiFrame, SeenFrame, OtherFrame, CutFrame, OsiFrame, frame_octets, seen_in}

-- the header of a file that is made: microseconds, no zone and no accuracy, all octets of a frame, and an Ethernet
abbrev pub made_header : Header
made_header = record { nanoseconds = false; zone = 0; accuracy = 0; snap = most_captured; link = 1 }

-- an OSI PDU with the second at which it came, and its destination and source
pub record Frame : Type 0 where
  pub seconds : ℕ
  pub to : List ℕ
  pub from : List ℕ
  pub pdu : List ℕ

-- the seconds fit four octets, and the PDU has an octet
pub record IsFrame (f : Frame) : Type 0 where
  pub seconds : f.seconds < 2 ^ 32
  pub osi : IsOsiFrame f.to f.from f.pdu
  pub some : 1 ≤ length f.pdu

-- destination, source and PDU are octets
pub record HasBytes (f : Frame) : Type 0 where
  pub to : IsBytes f.to
  pub from : IsBytes f.from
  pub pdu : IsBytes f.pdu

-- filled with zeros to the 60 octets that an Ethernet frame has at least
abbrev pub padded : List ℕ → List ℕ
padded octets = octets ++ replicate (60 - length octets) 0

-- the record that is made of a frame
abbrev pub made_record : Frame → Captured
made_record f =
    record {
      seconds = f.seconds;
      fraction = 0;
      original = length (padded (frame_octets f.to f.from f.pdu));
      octets = padded (frame_octets f.to f.from f.pdu);
    }

-- the file that is made of frames
abbrev pub made_file : List Frame → List ℕ
made_file frames = header_octets HighFirst made_header ++ all_captured HighFirst (map made_record frames)

-- ---- the frames in records

-- the frame with the OSI PDU that is seen, if it has an octet
abbrev pub frame_seen : (seconds : ℕ) → SeenFrame → Option Frame
frame_seen seconds OtherFrame = None
frame_seen seconds CutFrame = None
frame_seen seconds (OsiFrame to from []) = None
frame_seen seconds (OsiFrame to from (first ∷ others)) =
    Some (record { seconds = seconds; to = to; from = from; pdu = first ∷ others })

-- the frames with OSI PDUs of at least one octet, in their order
abbrev pub frames_in : List Captured → List Frame
frames_in records = filter_map (λ c. frame_seen c.seconds (seen_in c.octets)) records
