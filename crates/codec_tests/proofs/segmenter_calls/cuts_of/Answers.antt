use Rattle.std.proofs.Common.{refl, arith}
use Rattle.pdus.specs.PduHeader.View.{pdu_value}
use Rattle.codec_tests.proofs.segmenter_calls.cuts_of.Goals as goal

pub of-requires : goal.of-requires
of-requires c = (pdu_value c.in-Ok.pdu, c.in-Ok.ensures.spells)

pub new-requires-clause-data : goal.new-requires-clause-data
new-requires-clause-data c = (pdu_value c.in-Ok.pdu, rw c.of.ensures c.in-Ok.ensures.spells, omega arith)
