use Rattle.std.proofs.Common.{◌+◌, get_or, arith}
use Rattle.pdus.proofs.PduHeader.Changed.{to_length, from_length, header_holds}
use Rattle.pdus.proofs.pdu_header.header.part_index.Goals as goal

pub bounds-octets-9 : goal.bounds-octets-9
bounds-octets-9 c = omega (arith, header_holds c.requires.0 c.args.octets.now c.requires.1)

pub bounds-octets-to : goal.bounds-octets-to
bounds-octets-to c = omega (arith, to_length c.requires.0 c.args.octets.now c.requires.1, header_holds c.requires.0 c.args.octets.now c.requires.1)

pub returns-clause-place : goal.returns-clause-place
returns-clause-place c v h =
    let to = to_length v c.args.octets.now h in
    let from = from_length v c.args.octets.now (10 + get_or c.args.octets.now 9 0) h (omega (arith, to)) in
    omega (arith, to, from)

pub returns-clause-few : goal.returns-clause-few
returns-clause-few c =
    let v = c.requires.0 in
    let to = to_length v c.args.octets.now c.requires.1 in
    let from = from_length v c.args.octets.now (10 + get_or c.args.octets.now 9 0) c.requires.1 (omega (arith, to)) in
    omega (arith, to, from, header_holds v c.args.octets.now c.requires.1)
