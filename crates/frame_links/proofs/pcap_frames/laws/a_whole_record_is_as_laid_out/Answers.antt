use Rattle.frame_links.proofs.PcapFrames.FirstRecord.{first_is, first_of_laid}
use Rattle.frame_links.proofs.pcap_frames.laws.a_whole_record_is_as_laid_out.Goals as goal

pub returns : goal.returns
returns c order octets captured bytes = (
  first_is order octets captured bytes,
  λ laid. first_of_laid order octets captured laid.1.0 bytes laid.0 laid.1.1,
)
