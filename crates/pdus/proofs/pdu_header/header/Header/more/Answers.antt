use Rattle.std.proofs.Common.{◌∙◌, ap}
use Rattle.pdus.specs.PduHeader.Rules.{has_more}
use Rattle.pdus.proofs.PduHeader.Told.{tells_more}
use Rattle.pdus.proofs.pdu_header.header.Header.more.Goals as goal

pub returns : goal.returns
returns c v spelt = c.has_more.ensures ∙ ap has_more c.as_bytes.ensures.octets ∙ tells_more v c.args.self.now spelt
