use Rattle.clnp_machine.proofs.Noted.{step_changes_not}
use Rattle.clnp_machine.proofs.laws.no_step_notes_a_change.Goals as goal

pub returns : goal.returns
returns c = step_changes_not
