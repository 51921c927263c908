use Rattle.frame_links.proofs.PcapFrames.FrameFacts.{laid_out_is_seen, seen_is_laid_out, seen_is_osi}
use Rattle.frame_links.proofs.pcap_frames.laws.an_osi_frame_is_as_laid_out.Goals as goal

pub returns : goal.returns
returns c octets to from pdu bytes = (
  λ seen. (seen_is_osi octets to from pdu seen, seen_is_laid_out octets to from pdu bytes seen),
  λ laid. laid_out_is_seen octets to from pdu laid.1.0 laid.0 laid.1.1,
)
