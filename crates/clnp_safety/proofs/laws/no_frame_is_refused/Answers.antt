use Rattle.clnp_safety.proofs.Runs.{none_is_refused}
use Rattle.clnp_safety.proofs.laws.no_frame_is_refused.Goals as goal

pub returns : goal.returns
returns c = none_is_refused c.laws_of_steps.ensures
