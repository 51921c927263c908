use Rattle.captures.proofs.CaptureText.Outcomes.{alone, some_outcome}
use Rattle.captures.proofs.capture_text.laws.the_outcome_of_a_line.Goals as goal

pub returns-clause-some : goal.returns-clause-some
returns-clause-some c = some_outcome c.one_line.ensures.some c.one_line.ensures.one

pub returns-clause-one : goal.returns-clause-one
returns-clause-one c = λ line outcome other. alone outcome other line
