use Rattle.frame_links.proofs.PcapFrames.OneReading.{fault_stays}
use Rattle.frame_links.proofs.pcap_frames.laws.a_fault_stays.Goals as goal

pub returns : goal.returns
returns c = fault_stays
