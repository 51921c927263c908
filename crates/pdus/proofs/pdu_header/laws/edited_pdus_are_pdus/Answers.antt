use Rattle.pdus.proofs.PduHeader.EditedPdus.{advanced_pdu, recorded_pdu, marked_pdu}
use Rattle.pdus.proofs.pdu_header.laws.edited_pdus_are_pdus.Goals as goal

pub returns-clause-advanced : goal.returns-clause-advanced
returns-clause-advanced c = advanced_pdu

pub returns-clause-recorded : goal.returns-clause-recorded
returns-clause-recorded c = recorded_pdu

pub returns-clause-marked : goal.returns-clause-marked
returns-clause-marked c = marked_pdu
