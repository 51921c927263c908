use Rattle.std.proofs.Common.{arith}
use Rattle.pdus.specs.PduHeader.Parts.{parts_value}
use Rattle.pdus.proofs.MadePdus.Accepted.{unbroken}
use Rattle.pdus.proofs.made_pdus.report_making.header.Goals as goal

pub returns-clause-accepted : goal.returns-clause-accepted
returns-clause-accepted c body len = unbroken (parts_value c.args.parts.now body) c.in-Ok.header (c.in-Ok.ensures.spells body (omega arith))
