use Rattle.frame_links.proofs.PcapFrames.MadeFrames.{made_frames_come, made_is_read}
use Rattle.frame_links.proofs.pcap_frames.link_laws.a_made_file_plays_its_frames.Goals as goal

pub returns-clause-read : goal.returns-clause-read
returns-clause-read c = made_is_read

pub returns-clause-frames : goal.returns-clause-frames
returns-clause-frames c = made_frames_come
