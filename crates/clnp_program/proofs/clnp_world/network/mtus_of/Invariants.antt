use Rattle.std.proofs.Common.{◌≡◌, map, take}
use Rattle.clnp_machine.specs.ScenarioPlan.Plan.{Subnetwork}
use Rattle.clnp_program.proofs.clnp_world.network.mtus_of.Given as goal

abbrev pub invariant-loop-subnet : goal.invariant-loop-subnet
invariant-loop-subnet l = l.mtus.items ≡ map (λ (subnet : Subnetwork). subnet.mtu) (take l.subnet-index l.subnets)
