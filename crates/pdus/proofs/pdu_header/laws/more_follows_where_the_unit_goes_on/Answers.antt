use Rattle.pdus.proofs.PduHeader.Ranges.{fits_where_tested, more_is}
use Rattle.pdus.proofs.pdu_header.laws.more_follows_where_the_unit_goes_on.Goals as goal

pub returns-clause-test : goal.returns-clause-test
returns-clause-test c = fits_where_tested

pub returns-clause-more : goal.returns-clause-more
returns-clause-more c = more_is
