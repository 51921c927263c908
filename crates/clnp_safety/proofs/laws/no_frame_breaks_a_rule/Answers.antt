use Rattle.clnp_safety.proofs.Runs.{frames_are_unbroken}
use Rattle.clnp_safety.proofs.laws.no_frame_breaks_a_rule.Goals as goal

pub returns : goal.returns
returns c = frames_are_unbroken c.laws_of_steps.ensures
