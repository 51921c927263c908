use Rattle.pdus.proofs.PduHeader.Least.{kept_where_none, refused_by_least, twenty_rules}
use Rattle.pdus.proofs.pdu_header.laws.the_least_broken_rule_is_told.Goals as goal

pub returns-clause-refused : goal.returns-clause-refused
returns-clause-refused c = refused_by_least

pub returns-clause-kept : goal.returns-clause-kept
returns-clause-kept c = kept_where_none

pub returns-clause-twenty : goal.returns-clause-twenty
returns-clause-twenty c = twenty_rules
