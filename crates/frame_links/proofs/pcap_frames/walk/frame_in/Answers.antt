use Rattle.std.proofs.Common.{sym}
use Rattle.frame_links.proofs.PcapFrames.FrameFacts.{seen_is_osi}
use Rattle.frame_links.proofs.pcap_frames.walk.frame_in.Goals as goal

pub returns-in-Osi-clause-few : goal.returns-in-Osi-clause-few
returns-in-Osi-clause-few c =
    let osi = seen_is_osi c.args.octets.now c.in-Osi.to c.in-Osi.from c.in-Osi.pdu.now (sym c.in-Osi.ensures) in
    osi.few
