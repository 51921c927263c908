-- The frames that come of the records of a file.
use Rattle.std.specs.Prelude.{ℕ, ◌||◌, Bool, List, Option, Some, None}
use Rattle.std.specs.List.{filter_map}
use Rattle.std.specs.Str.{bytes_eq}
use Rattle.frame_links.specs.LinkBoard.Links.{CameFrame}
use Rattle.frame_links.specs.PcapFrames.File.{Captured}
use Rattle.frame_links.specs.PcapFrames.Frames.{SeenFrame, OtherFrame, CutFrame, OsiFrame, seen_in}
use Rattle.frame_links.specs.PcapFrames.Groups.{end_systems, intermediate_systems}
use Rattle.frame_links.specs.PcapFrames.Making.{Frame}

-- a destination is the group of all end systems or that of all intermediate systems
abbrev pub is_group : List ℕ → Bool
is_group to = bytes_eq to end_systems || bytes_eq to intermediate_systems

-- what comes of what is seen in a frame: the OSI PDU, if one is seen, from the frame's source
abbrev pub came_of : SeenFrame → Option CameFrame
came_of OtherFrame = None
came_of CutFrame = None
came_of (OsiFrame to from pdu) = Some (record { from = from; to_group = is_group to; octets = pdu })

-- what comes of records: the OSI PDUs in their frames, in order
abbrev pub frames_of : List Captured → List CameFrame
frames_of records = filter_map (λ c. came_of (seen_in c.octets)) records

-- what comes of a frame of which a file is made
abbrev pub came_made : Frame → CameFrame
came_made f = record { from = f.from; to_group = is_group f.to; octets = f.pdu }
