use Rattle.clnp_machine.proofs.ClnpNetwork.Changing.{no_subnetwork_takes, subnetwork_takes}
use Rattle.clnp_machine.proofs.clnp_network.laws.an_mtu_comes_to_the_ports_on_its_subnetwork.Goals as goal

pub returns-clause-there : goal.returns-clause-there
returns-clause-there c subnets limits w = subnetwork_takes subnets w

pub returns-clause-absent : goal.returns-clause-absent
returns-clause-absent c subnets limits w = no_subnetwork_takes subnets w
