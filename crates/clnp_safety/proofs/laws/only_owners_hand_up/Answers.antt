use Rattle.clnp_safety.proofs.Owned.{move_by_owner}
use Rattle.clnp_safety.proofs.laws.only_owners_hand_up.Goals as goal

pub returns : goal.returns
returns c = move_by_owner c.laws_of_steps.ensures
