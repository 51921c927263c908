-- What the code's types mean.
use Rattle.frame_links.specs.declared.pcap_frames.captured.Record.{Record}
use Rattle.frame_links.specs.declared.pcap_frames.seeing.Seen.{Seen}
use Rattle.frame_links.specs.declared.pcap_frames.seeing.Seen.TheVariants.{Other, Cut, Osi}
use Rattle.frame_links.specs.PcapFrames.File.{Captured}
use Rattle.frame_links.specs.PcapFrames.Frames.{SeenFrame, OtherFrame, CutFrame, OsiFrame}

-- what a record tells
abbrev pub captured_value : Record → Captured
captured_value r =
    record { seconds = r.seconds; fraction = r.fraction; original = r.original; octets = r.octets.now }

-- what is seen in a frame
abbrev pub seen_value : Seen → SeenFrame
seen_value Other = OtherFrame
seen_value Cut = CutFrame
seen_value (Osi to from pdu) = OsiFrame to from pdu.now
