use Rattle.pdus.proofs.PduHeader.Sealing.{has_wanted, no_other, only_wanted, spelled_where_laid_out}
use Rattle.pdus.proofs.pdu_header.laws.the_checksum_is_as_wanted.Goals as goal

pub returns-clause-account : goal.returns-clause-account
returns-clause-account c = spelled_where_laid_out c.one_checksum.ensures c.sealed_keeps_others.ensures.shape c.sealed_is_unique.ensures.of_other

pub returns-clause-wanted : goal.returns-clause-wanted
returns-clause-wanted c = has_wanted c.one_checksum.ensures

pub returns-clause-exactly : goal.returns-clause-exactly
returns-clause-exactly c = only_wanted c.one_checksum.ensures

pub returns-clause-no_other : goal.returns-clause-no_other
returns-clause-no_other c = no_other c.sealed_is_unique.ensures.of_other
