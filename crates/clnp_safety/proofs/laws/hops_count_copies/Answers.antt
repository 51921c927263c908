use Rattle.clnp_safety.proofs.Hopped.{hops_are_counted}
use Rattle.clnp_safety.proofs.laws.hops_count_copies.Goals as goal

pub returns : goal.returns
returns c = hops_are_counted c.laws_of_steps.ensures
