use Rattle.clnp_machine.proofs.Deeds.{step_budget}
use Rattle.clnp_machine.proofs.laws.budgets_are_kept.Goals as goal

pub returns : goal.returns
returns c = step_budget
