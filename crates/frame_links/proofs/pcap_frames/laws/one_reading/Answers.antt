use Rattle.frame_links.proofs.PcapFrames.AnyOctets.{any_read}
use Rattle.frame_links.proofs.PcapFrames.OneReading.{read_once}
use Rattle.frame_links.proofs.pcap_frames.laws.one_reading.Goals as goal

pub returns-clause-some : goal.returns-clause-some
returns-clause-some c = any_read

pub returns-clause-one : goal.returns-clause-one
returns-clause-one c = read_once
