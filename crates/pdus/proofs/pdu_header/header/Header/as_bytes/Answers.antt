use Rattle.std.proofs.Common.{◌∙◌, ap, length}
use Rattle.pdus.proofs.PduHeader.Written.{length-header, nine_at_least}
use Rattle.pdus.proofs.pdu_header.header.Header.as_bytes.Goals as goal

pub returns-clause-some : goal.returns-clause-some
returns-clause-some c = rw c.as_bytes.ensures.octets (nine_at_least c.self.inside.cells c.self.invariant)

pub returns-clause-size : goal.returns-clause-size
returns-clause-size c v h = ap length (c.as_bytes.ensures.octets ∙ c.self.view_is ∙ h.octets_are) ∙ length-header v
