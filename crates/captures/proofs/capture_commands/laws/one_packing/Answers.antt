use Rattle.captures.proofs.CaptureCommands.Packs.{answers_one, answers_some, outputs_one, outputs_some}
use Rattle.captures.proofs.capture_commands.laws.one_packing.Goals as goal

pub returns-clause-some_answer : goal.returns-clause-some_answer
returns-clause-some_answer c = answers_some c.the_outcome_of_a_line.ensures.some

pub returns-clause-one_answer : goal.returns-clause-one_answer
returns-clause-one_answer c = answers_one c.the_outcome_of_a_line.ensures.one

pub returns-clause-some_output : goal.returns-clause-some_output
returns-clause-some_output c = outputs_some c.the_outcome_of_a_line.ensures.some

pub returns-clause-one_output : goal.returns-clause-one_output
returns-clause-one_output c = outputs_one c.the_outcome_of_a_line.ensures.one
