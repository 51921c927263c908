use Rattle.std.proofs.Common.{◌-◌, ap, ◌∙◌, length, drop, arith, length-drop, take_all}
use Rattle.byteorder.specs.Endian.{big_number, little_number}
use Rattle.frame_links.specs.PcapFrames.Numbers.{value}
use Rattle.frame_links.proofs.pcap_frames.order.four_at.Goals as goal

pub read_u32-requires : goal.read_u32-requires
read_u32-requires c =
    let rest = drop c.args.at c.args.octets.now in
    rw (take_all (length c.args.octets.now - c.args.at) rest (omega (arith, length-drop c.args.at c.args.octets.now)))
    (omega (arith, length-drop c.args.at c.args.octets.now, c.requires))

pub read_u32-requires-in-LowFirst : goal.read_u32-requires-in-LowFirst
read_u32-requires-in-LowFirst c =
    let rest = drop c.args.at c.args.octets.now in
    rw (take_all (length c.args.octets.now - c.args.at) rest (omega (arith, length-drop c.args.at c.args.octets.now)))
    (omega (arith, length-drop c.args.at c.args.octets.now, c.requires))

pub returns-in-HighFirst : goal.returns-in-HighFirst
unfolding value
returns-in-HighFirst c =
    let rest = drop c.args.at c.args.octets.now in
    rw c.in-HighFirst.is
    (c.read_u32.ensures
    ∙ ap (big_number 4) (take_all (length c.args.octets.now - c.args.at) rest (omega (arith, length-drop c.args.at c.args.octets.now))))

pub returns-in-LowFirst : goal.returns-in-LowFirst
unfolding value
returns-in-LowFirst c =
    let rest = drop c.args.at c.args.octets.now in
    rw c.in-LowFirst.is
    (c.read_u32-in-LowFirst.ensures
    ∙ ap (little_number 4) (take_all (length c.args.octets.now - c.args.at) rest (omega (arith, length-drop c.args.at c.args.octets.now))))
