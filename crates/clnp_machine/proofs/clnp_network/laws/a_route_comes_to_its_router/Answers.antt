use Rattle.std.proofs.Common.{ap}
use Rattle.clnp_machine.specs.ClnpNetwork.LabelledNetwork.{sets_route_of}
use Rattle.clnp_machine.proofs.ClnpNetwork.Changing.{no_route_astray, no_route_of_hosts, route_is_set}
use Rattle.clnp_machine.proofs.clnp_network.laws.a_route_comes_to_its_router.Goals as goal

pub returns-clause-there : goal.returns-clause-there
returns-clause-there c subnets limits w place route s = route_is_set w place s route

pub returns-clause-no_system : goal.returns-clause-no_system
returns-clause-no_system c subnets limits w place route none = ap (sets_route_of w place route) none

pub returns-clause-host : goal.returns-clause-host
returns-clause-host c subnets limits w place route s = no_route_of_hosts w place s route

pub returns-clause-no_port : goal.returns-clause-no_port
returns-clause-no_port c subnets limits w place route s = no_route_astray w place s route
