use Rattle.frame_links.proofs.PcapFrames.Following.{follows}
use Rattle.frame_links.proofs.pcap_frames.laws.whatever_follows.Goals as goal

pub returns : goal.returns
returns c = follows
