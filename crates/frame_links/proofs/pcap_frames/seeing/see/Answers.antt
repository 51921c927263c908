use Rattle.std.proofs.Common.{◌≡◌, ap, ◌∙◌, ◌-◌, sym, length, drop, arith, length-drop, take_all}
use Rattle.byteorder.specs.Endian.{big_number}
use Rattle.frame_links.specs.PcapFrames.Frames.{told_length}
use Rattle.frame_links.proofs.PcapFrames.FrameFacts.{seen_cut, seen_osi, seen_other, tests_of}
use Rattle.frame_links.proofs.pcap_frames.seeing.see.Goals as goal

pub returns-then-not-is_osi : goal.returns-then-not-is_osi
returns-then-not-is_osi c = seen_other c.args.octets.now (sym c.if-not-is_osi.ensures)

pub slice_bounds-read_u16-count : goal.slice_bounds-read_u16-count
slice_bounds-read_u16-count c =
    let long = (tests_of c.args.octets.now (sym c.if-not-is_osi.ensures)).long in
    omega arith

pub read_u16-requires : goal.read_u16-requires
read_u16-requires c =
    let octets = c.args.octets.now in
    let long = (tests_of octets (sym c.if-not-is_osi.ensures)).long in
    rw (take_all (length octets - 12) (drop 12 octets) (omega (arith, length-drop 12 octets))) (omega (arith, length-drop 12 octets))

pub returns-then-octets-end : goal.returns-then-octets-end
returns-then-octets-end c =
    let octets = c.args.octets.now in
    let told : c.from-end.result ≡ told_length octets = c.from-end.ensures ∙ c.read_u16.ensures ∙ ap (big_number 2) (take_all (length octets - 12) (drop 12 octets) (omega (arith, length-drop 12 octets))) in
    seen_cut octets c.from-end.result (sym c.if-not-is_osi.ensures) told c.if-octets-end.true

pub slice_bounds-result-count : goal.slice_bounds-result-count
slice_bounds-result-count c =
    let octets = c.args.octets.now in
    let told : c.from-end.result ≡ told_length octets = c.from-end.ensures ∙ c.read_u16.ensures ∙ ap (big_number 2) (take_all (length octets - 12) (drop 12 octets) (omega (arith, length-drop 12 octets))) in
    let low = (tests_of octets (sym c.if-not-is_osi.ensures)).low in
    omega arith

pub returns : goal.returns
returns c =
    let octets = c.args.octets.now in
    let told : c.from-end.result ≡ told_length octets = c.from-end.ensures ∙ c.read_u16.ensures ∙ ap (big_number 2) (take_all (length octets - 12) (drop 12 octets) (omega (arith, length-drop 12 octets))) in
    seen_osi octets c.station.result c.station-2.result c.from-end.result (sym c.if-not-is_osi.ensures) told c.if-octets-end.false c.station.ensures c.station-2.ensures
