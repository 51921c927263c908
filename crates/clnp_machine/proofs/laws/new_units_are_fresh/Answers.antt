use Rattle.clnp_machine.proofs.Asked.{step_asked}
use Rattle.clnp_machine.proofs.Deeds.{step_fresh, step_numbered}
use Rattle.clnp_machine.proofs.laws.new_units_are_fresh.Goals as goal

pub returns-clause-fresh : goal.returns-clause-fresh
returns-clause-fresh c = step_fresh

pub returns-clause-numbered : goal.returns-clause-numbered
returns-clause-numbered c = step_numbered

pub returns-clause-asked : goal.returns-clause-asked
returns-clause-asked c = step_asked
