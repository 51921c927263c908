use Rattle.clnp_safety.proofs.Resting.{identifiers_rest}
use Rattle.clnp_safety.proofs.laws.identifiers_rest.Goals as goal

pub returns : goal.returns
returns c = identifiers_rest c.laws_of_steps.ensures
