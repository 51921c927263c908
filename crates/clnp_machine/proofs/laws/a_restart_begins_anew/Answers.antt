use Rattle.std.proofs.Common.{refl}
use Rattle.clnp_machine.proofs.Ending.{restarted_anew}
use Rattle.clnp_machine.proofs.laws.a_restart_begins_anew.Goals as goal

pub returns-clause-after : goal.returns-clause-after
returns-clause-after c = restarted_anew

pub returns-clause-outputs : goal.returns-clause-outputs
returns-clause-outputs c s = refl

pub returns-clause-units : goal.returns-clause-units
returns-clause-units c s = refl
