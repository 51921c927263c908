use Rattle.frame_links.proofs.PcapFrames.Answering.{where_refused}
use Rattle.frame_links.proofs.pcap_frames.reader.PcapReader.feed.Goals as goal

pub returns-clause-breaks : goal.returns-clause-breaks
returns-clause-breaks c =
    rw (c.answer.ensures, ← c.self.view_is)
    (where_refused c.take_next-fed.result.octets c.take_next-fed.result.stage
    (c.take_next-fed.result.octets, c.take_next-fed.ensures.front, c.take_next-fed.ensures.takes))
