use Rattle.std.proofs.Common.{refl}
use Rattle.clnp_machine.proofs.Following.{told_in_order}
use Rattle.clnp_machine.proofs.laws.a_moment_is_told_in_order.Goals as goal

pub returns-clause-order : goal.returns-clause-order
returns-clause-order c = told_in_order

pub returns-clause-ended : goal.returns-clause-ended
returns-clause-ended c s ended = refl
