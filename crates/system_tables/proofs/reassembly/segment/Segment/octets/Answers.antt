-- The parts of the PDU that are handed out have the octets of those places.
use Rattle.std.proofs.Common.{◌+◌, ◌-◌, ◌≤◌, length, get_or, drop, ap, ◌∙◌, arith}
use Rattle.std.proofs.lemmas.List.{length-drop, length-take-le}
use Rattle.pdus.specs.ClnpViews.Extent.{seen}
use Rattle.system_tables.specs.Reassembly.Arrival.{arrival_of, octet_in}
use Rattle.pdus.proofs.ClnpBase.Ranges.{part_by_each}
use Rattle.system_tables.proofs.reassembly.segment.Segment.octets.Goals as goal

pub returns : goal.returns
returns c =
    let pdu = c.args.self.now.pdu in
    let octets = seen pdu in
    let start = c.from.result + (c.args.place - c.from-2.result) in
    let dropped = length-drop pdu.from pdu.frame in
    let long = length-take-le pdu.len (drop pdu.from pdu.frame) (omega (arith, dropped, c.frame_len-size.ensures.within)) in
    let within : start + c.args.len ≤ length octets = omega (arith, long, c.from.ensures, c.from-2.ensures, c.requires.to, c.requires.from, c.requires.came.has_header) in
    c.parts.ensures.octets
    ∙ part_by_each (octet_in (arrival_of c.args.self.now)) octets c.args.place start c.args.len within
    (λ k lt. ap (λ i. get_or octets i 0) (omega arith))
