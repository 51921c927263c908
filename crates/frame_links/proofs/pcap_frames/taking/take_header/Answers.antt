use Rattle.std.proofs.Common.{take, arith}
use Rattle.frame_links.proofs.PcapFrames.Steps.{filled, takes_wrong_header}
use Rattle.frame_links.proofs.pcap_frames.taking.take_header.Goals as goal

pub returns-in-Err-clause-takes : goal.returns-in-Err-clause-takes
returns-in-Err-clause-takes c =
    let new = c.take_up_to-octets.new.part.items in
    let most = filled 24 c.take_up_to-octets.result c.args.part.now.items c.args.piece.now new c.requires.few c.take_up_to-octets.ensures.count c.take_up_to-octets.ensures.items in
    takes_wrong_header c.in-Err.fault c.args.part.now.items (take c.take_up_to-octets.result c.args.piece.now) new c.take_up_to-octets.ensures.items
    (omega arith) (rw c.deref.ensures.value at c.in-Err.ensures)
