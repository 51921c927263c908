use Rattle.clnp_safety.proofs.Bounds.{budgets_hold}
use Rattle.clnp_safety.proofs.laws.budgets_are_kept.Goals as goal

pub returns : goal.returns
returns c = budgets_hold c.laws_of_steps.ensures
