use Rattle.std.proofs.Common.{ap, ◌∙◌, ◌++◌, List, ℕ}
use Rattle.frame_links.specs.PcapFrames.Frames.{IsOsiFrame}
use Rattle.frame_links.specs.PcapFrames.Making.{Frame}
use Rattle.frame_links.proofs.PcapFrames.MadeFiles.{before_frame, record_put}
use Rattle.frame_links.proofs.pcap_frames.making.put_frame.Goals as goal

pub returns-clause-written : goal.returns-clause-written
returns-clause-written c =
    let f : Frame = record { seconds = c.args.seconds; to = c.args.to.now; from = c.args.from.now; pdu = c.args.pdu.now } in
    let osi : IsOsiFrame f.to f.from f.pdu = record { to_size = c.requires.to; from_size = c.requires.from; few = c.requires.few } in
    record_put f c.filled_size-size.result c.args.out.now.items c.put_record_header.new.out.items c.put_frame_header.new.out.items c.put.new.out.items
    c.put-2.new.out.items osi c.filled_size-size.ensures
    (c.put_record_header.ensures.items ∙ ap (λ (t : List ℕ). t ++ before_frame f.seconds c.filled_size-size.result) c.reserve.ensures.items)
    c.put_frame_header.ensures.items c.put.ensures.items c.put-2.ensures.items c.requires.some
