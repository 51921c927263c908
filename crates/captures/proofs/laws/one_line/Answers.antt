use Rattle.captures.proofs.OneLine as line_facts
use Rattle.captures.proofs.laws.one_line.Goals as goal

pub returns-clause-some : goal.returns-clause-some
returns-clause-some c = line_facts.some_line c.spelled_where_no_rule_is_broken.ensures.spelled c.spelled_where_no_rule_is_broken-2.ensures.spelled

pub returns-clause-one : goal.returns-clause-one
returns-clause-one c = line_facts.one_line c.one_value.ensures c.one_value-2.ensures
