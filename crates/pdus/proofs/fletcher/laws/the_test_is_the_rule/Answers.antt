use Rattle.pdus.proofs.FletcherFacts.Test.{right_where_tested, right_either_way}
use Rattle.pdus.proofs.fletcher.laws.the_test_is_the_rule.Goals as goal

pub returns-clause-test : goal.returns-clause-test
returns-clause-test c = right_where_tested

pub returns-clause-either : goal.returns-clause-either
returns-clause-either c = right_either_way
