use Rattle.clnp_safety.proofs.Carried.{attached_throughout}
use Rattle.clnp_safety.proofs.laws.attachments_of_runs_are_sound.Goals as goal

pub returns : goal.returns
returns c = attached_throughout c.laws_of_steps.ensures
