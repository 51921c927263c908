use Rattle.pdus.proofs.PduHeader.Told.{tells_value}
use Rattle.pdus.proofs.pdu_header.laws.a_header_tells_its_value.Goals as goal

pub returns : goal.returns
returns c = record { value = tells_value }
