use Rattle.clnp_program.proofs.ClnpWorld.TellSteps.{tells_once}
use Rattle.clnp_program.proofs.clnp_world.laws.what_becomes_of_a_copy_is_told_once.Goals as goal

pub returns : goal.returns
returns c = tells_once
