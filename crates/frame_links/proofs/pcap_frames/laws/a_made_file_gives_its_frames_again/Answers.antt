use Rattle.frame_links.proofs.PcapFrames.MadeFiles.{made_frames_again, made_is_file}
use Rattle.frame_links.proofs.pcap_frames.laws.a_made_file_gives_its_frames_again.Goals as goal

pub returns-clause-file : goal.returns-clause-file
returns-clause-file c = made_is_file

pub returns-clause-frames : goal.returns-clause-frames
returns-clause-frames c = made_frames_again
