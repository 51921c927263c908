use Rattle.frame_links.proofs.PcapFrames.Following.{read_bytes, read_fits}
use Rattle.frame_links.proofs.pcap_frames.laws.what_is_read_fits.Goals as goal

pub returns-clause-fits : goal.returns-clause-fits
returns-clause-fits c = read_fits

pub returns-clause-bytes : goal.returns-clause-bytes
returns-clause-bytes c = read_bytes
