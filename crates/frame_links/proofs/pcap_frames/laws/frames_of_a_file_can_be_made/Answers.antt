use Rattle.frame_links.proofs.PcapFrames.FramesSeen.{frames_are_bytes, frames_are_frames}
use Rattle.frame_links.proofs.pcap_frames.laws.frames_of_a_file_can_be_made.Goals as goal

pub returns-clause-frames : goal.returns-clause-frames
returns-clause-frames c order records file h = frames_are_frames records h.each

pub returns-clause-bytes : goal.returns-clause-bytes
returns-clause-bytes c = frames_are_bytes
