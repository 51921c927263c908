use Rattle.clnp_safety.proofs.Standing.{keeps_what_came}
use Rattle.clnp_safety.proofs.laws.what_is_kept_came_in_copies.Goals as goal

pub returns : goal.returns
returns c = keeps_what_came c.laws_of_steps.ensures
