use Rattle.frame_links.proofs.PcapFrames.OneReading.{front_has_no_fault}
use Rattle.frame_links.proofs.pcap_frames.laws.the_front_of_a_file_has_no_fault.Goals as goal

pub returns : goal.returns
returns c = front_has_no_fault
