use Rattle.clnp_safety.proofs.Refusals.{refused_send_leaves}
use Rattle.clnp_safety.proofs.laws.refused_leaves_nothing.Goals as goal

pub returns : goal.returns
returns c = refused_send_leaves c.laws_of_steps.ensures
