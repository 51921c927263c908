use Rattle.pdus.proofs.PduHeader.Frames.{is_front, unbroken_where_spelled}
use Rattle.pdus.proofs.pdu_header.laws.spelled_where_no_rule_is_broken.Goals as goal

pub returns : goal.returns
returns c = record {
  spelled = unbroken_where_spelled;
  protocol = λ frame v rest h. (is_front frame v rest h).protocol;
}
