use Rattle.frame_links.proofs.PcapFrames.OneReading.{one_file}
use Rattle.frame_links.proofs.pcap_frames.laws.one_order_and_one_list.Goals as goal

pub returns : goal.returns
returns c = one_file
