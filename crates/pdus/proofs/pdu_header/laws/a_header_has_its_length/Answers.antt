use Rattle.pdus.proofs.PduHeader.Changed.{header_length-is}
use Rattle.pdus.proofs.PduHeader.Written.{length-header}
use Rattle.pdus.proofs.pdu_header.laws.a_header_has_its_length.Goals as goal

pub returns-clause-header : goal.returns-clause-header
returns-clause-header c = length-header

pub returns-clause-parts : goal.returns-clause-parts
returns-clause-parts c = header_length-is
