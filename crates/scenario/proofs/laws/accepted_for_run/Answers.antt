use Rattle.scenario.proofs.ForRun.{accepted_on_board}
use Rattle.scenario.proofs.laws.accepted_for_run.Goals as goal

pub returns : goal.returns
returns c = accepted_on_board
