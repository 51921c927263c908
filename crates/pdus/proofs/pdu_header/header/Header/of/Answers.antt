use Rattle.std.proofs.Common.{arith}
use Rattle.pdus.proofs.PduHeader.Written.{at_most_254}
use Rattle.pdus.proofs.pdu_header.header.Header.of.Goals as goal

pub of-cells-requires : goal.of-cells-requires
of-cells-requires c = omega (arith, at_most_254 c.args.octets.now c.requires)

pub invariant_of-result : goal.invariant_of-result
invariant_of-result c = rw (c.of-cells.ensures) c.requires
