use Rattle.clnp_program.proofs.ClnpWorld.GiveSteps.{Skips}
use Rattle.clnp_program.proofs.clnp_world.network.Network.next_addressee.Given as goal

abbrev pub invariant-loop-place : goal.invariant-loop-place
invariant-loop-place l = Skips l.self l.at l.from l.place
