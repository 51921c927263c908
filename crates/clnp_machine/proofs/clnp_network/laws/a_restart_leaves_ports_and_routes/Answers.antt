use Rattle.clnp_machine.proofs.ClnpNetwork.Changing.{restart_keeps}
use Rattle.clnp_machine.proofs.clnp_network.laws.a_restart_leaves_ports_and_routes.Goals as goal

pub returns : goal.returns
returns c subnets limits w place = restart_keeps w place
