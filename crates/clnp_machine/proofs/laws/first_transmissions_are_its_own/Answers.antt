use Rattle.clnp_machine.proofs.Hopping.{step_own_first}
use Rattle.clnp_machine.proofs.laws.first_transmissions_are_its_own.Goals as goal

pub returns : goal.returns
returns c = step_own_first c.laws_of_edits.ensures
