use Rattle.captures.proofs.OneVerdict.{some_verdict, one_verdict}
use Rattle.captures.proofs.laws.one_verdict.Goals as goal

pub returns-clause-some : goal.returns-clause-some
returns-clause-some c = some_verdict c.one_line.ensures.some

pub returns-clause-one : goal.returns-clause-one
returns-clause-one c = one_verdict c.one_line.ensures.one
