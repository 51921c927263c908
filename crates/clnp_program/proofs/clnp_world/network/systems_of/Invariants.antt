use Rattle.std.proofs.Common.{take}
use Rattle.clnp_machine.specs.ClnpNetwork.LabelledNetwork as network
use Rattle.clnp_program.specs.ClnpWorld.Stands.{StandEach}
use Rattle.clnp_program.proofs.clnp_world.network.systems_of.Given as goal

abbrev pub invariant-loop-config : goal.invariant-loop-config
invariant-loop-config l = StandEach l.systems.items (network.states_from l.limits 0 (take l.config-index l.declared))
