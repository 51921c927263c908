use Rattle.pdus.proofs.PduHeader.Frames.{reportable_front}
use Rattle.pdus.proofs.pdu_header.laws.reportable_where_wanted.Goals as goal

pub returns : goal.returns
returns c = reportable_front
