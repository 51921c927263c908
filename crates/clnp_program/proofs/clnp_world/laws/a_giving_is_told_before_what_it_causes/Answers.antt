use Rattle.clnp_program.proofs.ClnpWorld.TellSteps.{gives_as_told}
use Rattle.clnp_program.proofs.clnp_world.laws.a_giving_is_told_before_what_it_causes.Goals as goal

pub returns : goal.returns
returns c = gives_as_told
