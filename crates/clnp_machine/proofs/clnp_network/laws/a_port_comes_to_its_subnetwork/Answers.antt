use Rattle.clnp_machine.proofs.ClnpNetwork.Changing.{no_port_moves, no_port_moves_nowhere, no_port_of_nobody, port_moves}
use Rattle.clnp_machine.proofs.clnp_network.laws.a_port_comes_to_its_subnetwork.Goals as goal

pub returns-clause-there : goal.returns-clause-there
returns-clause-there c subnets limits w place = port_moves w place subnets

pub returns-clause-no_subnetwork : goal.returns-clause-no_subnetwork
returns-clause-no_subnetwork c subnets limits w place = no_port_moves_nowhere w place subnets

pub returns-clause-no_system : goal.returns-clause-no_system
returns-clause-no_system c subnets limits w place = no_port_of_nobody w place subnets

pub returns-clause-no_port : goal.returns-clause-no_port
returns-clause-no_port c subnets limits w place = no_port_moves w place subnets
