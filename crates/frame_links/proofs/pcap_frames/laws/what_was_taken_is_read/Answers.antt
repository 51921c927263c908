use Rattle.frame_links.proofs.PcapFrames.Endings.{taken_is_read}
use Rattle.frame_links.proofs.pcap_frames.laws.what_was_taken_is_read.Goals as goal

pub returns : goal.returns
returns c = taken_is_read
