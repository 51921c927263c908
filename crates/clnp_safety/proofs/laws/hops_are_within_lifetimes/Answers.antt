use Rattle.clnp_safety.proofs.Bounds.{lifetimes_hold}
use Rattle.clnp_safety.proofs.laws.hops_are_within_lifetimes.Goals as goal

pub returns : goal.returns
returns c = lifetimes_hold c.laws_of_steps.ensures
