use Rattle.clnp_machine.proofs.Hopping.{step_such}
use Rattle.clnp_machine.proofs.laws.hops_count_routers.Goals as goal

pub returns : goal.returns
returns c = step_such c.laws_of_edits.ensures
