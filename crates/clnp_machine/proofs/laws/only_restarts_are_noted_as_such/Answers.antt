use Rattle.clnp_machine.proofs.Noted.{step_restarts_not}
use Rattle.clnp_machine.proofs.laws.only_restarts_are_noted_as_such.Goals as goal

pub returns : goal.returns
returns c = step_restarts_not
