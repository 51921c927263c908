use Rattle.std.proofs.Common.{refl}
use Rattle.clnp_machine.proofs.Deeds.{step_few, step_pending}
use Rattle.clnp_machine.proofs.laws.requests_are_kept.Goals as goal

pub returns-clause-few : goal.returns-clause-few
returns-clause-few c = step_few

pub returns-clause-made : goal.returns-clause-made
returns-clause-made c = step_pending

pub returns-clause-forgotten : goal.returns-clause-forgotten
returns-clause-forgotten c s = refl
