use Rattle.std.proofs.Common.{vec_len, arith}
use Rattle.frame_links.proofs.PcapFrames.Starting.{begins_playing, begun}
use Rattle.frame_links.proofs.pcap_frames.link.PcapLink.new.Goals as goal

pub invariant_of-result : goal.invariant_of-result
invariant_of-result c =
    begins_playing c.args.file.items c.order_of-order.result c.min-at.result (vec_len c.args.file) (rw c.deref.ensures.value at c.order_of-order.ensures.told)
    (omega (arith, c.min-at.ensures, c.len.ensures, c.args.file.ok.0)) (omega (arith, c.args.file.ok.0))

pub returns : goal.returns
returns c records ending read =
    begun c.args.file.items c.order_of-order.result c.min-at.result records ending (rw c.deref.ensures.value at c.order_of-order.ensures.octets) (rw c.deref.ensures.value at c.order_of-order.ensures.told)
    (omega (arith, c.min-at.ensures, c.len.ensures, c.args.file.ok.0)) read
