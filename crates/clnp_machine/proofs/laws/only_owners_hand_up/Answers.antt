use Rattle.clnp_machine.proofs.Noted.{step_is_own}
use Rattle.clnp_machine.proofs.laws.only_owners_hand_up.Goals as goal

pub returns : goal.returns
returns c = step_is_own
