use Rattle.pdus.proofs.PduHeader.Frames.{one_front}
use Rattle.pdus.proofs.pdu_header.laws.one_value.Goals as goal

pub returns : goal.returns
returns c = one_front
