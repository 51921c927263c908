use Rattle.std.proofs.Common.{◌≡◌, ◌+◌, take, arith}
use Rattle.frame_links.specs.PcapFrames.Reading.{captured_length}
use Rattle.frame_links.proofs.PcapFrames.Steps.{TakesBehind, filled, is_whole, still_part, takes_by_length, takes_part, takes_whole}
use Rattle.frame_links.proofs.pcap_frames.taking.take_record.Goals as goal

pub returns-then-len-lt-UP_TO_LENGTH-clause-takes :
    goal.returns-then-len-lt-UP_TO_LENGTH-clause-takes
returns-then-len-lt-UP_TO_LENGTH-clause-takes c =
    takes_by_length c.args.order c.stage_by_length.result c.args.part.now.items (take c.take_up_to-octets.result c.args.piece.now)
    c.take_up_to-octets.new.part.items c.take_up_to-octets.ensures.items c.take_up_to-octets.ensures.bytes
    (rw c.deref.ensures.value at c.stage_by_length.ensures)

pub returns-then-len-whole-clause-held : goal.returns-then-len-whole-clause-held
returns-then-len-whole-clause-held c =
    let part = c.args.part.now.items in
    let whole = 16 + c.four_at.result in
    let told : c.four_at.result ≡ captured_length c.args.order part = rw c.deref-2.ensures.value at c.four_at.ensures in
    let t : TakesBehind c.args.order part (take c.take_up_to-octets-2.result c.args.piece.now) c.take_up_to-octets-2.new.part.items whole =
    record { partial = c.requires.part; long = omega arith; size = omega arith; same = c.take_up_to-octets-2.ensures.items } in
    still_part c.args.order part (take c.take_up_to-octets-2.result c.args.piece.now) c.take_up_to-octets-2.new.part.items whole t (omega arith)

pub returns-then-len-whole-clause-takes : goal.returns-then-len-whole-clause-takes
returns-then-len-whole-clause-takes c =
    takes_part c.args.order c.args.part.now.items (take c.take_up_to-octets-2.result c.args.piece.now) c.take_up_to-octets-2.new.part.items
    c.take_up_to-octets-2.ensures.items (returns-then-len-whole-clause-held c)

pub returns-else-len-whole-clause-held : goal.returns-else-len-whole-clause-held
returns-else-len-whole-clause-held c =
    let part = c.args.part.now.items in
    let whole = 16 + c.four_at.result in
    let told : c.four_at.result ≡ captured_length c.args.order part = rw c.deref-2.ensures.value at c.four_at.ensures in
    let t : TakesBehind c.args.order part (take c.take_up_to-octets-2.result c.args.piece.now) c.take_up_to-octets-2.new.part.items whole =
    record { partial = c.requires.part; long = omega arith; size = omega arith; same = c.take_up_to-octets-2.ensures.items } in
    let short = c.requires.part.short (omega arith) in
    let most = filled whole c.take_up_to-octets-2.result part c.args.piece.now c.take_up_to-octets-2.new.part.items (omega arith) c.take_up_to-octets-2.ensures.count c.take_up_to-octets-2.ensures.items in
    is_whole c.args.order part (take c.take_up_to-octets-2.result c.args.piece.now) c.take_up_to-octets-2.new.part.items whole t (omega arith)

pub returns-else-len-whole-clause-takes : goal.returns-else-len-whole-clause-takes
returns-else-len-whole-clause-takes c =
    takes_whole c.args.order c.args.part.now.items (take c.take_up_to-octets-2.result c.args.piece.now) c.take_up_to-octets-2.new.part.items
    c.take_up_to-octets-2.ensures.items c.take_up_to-octets-2.ensures.bytes (returns-else-len-whole-clause-held c)
