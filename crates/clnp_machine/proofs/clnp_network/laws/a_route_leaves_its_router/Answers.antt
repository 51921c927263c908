use Rattle.std.proofs.Common.{ap}
use Rattle.clnp_machine.specs.ClnpNetwork.LabelledNetwork.{removes_route_of}
use Rattle.clnp_machine.proofs.ClnpNetwork.Changing.{no_route_goes_of_hosts, route_is_gone}
use Rattle.clnp_machine.proofs.clnp_network.laws.a_route_leaves_its_router.Goals as goal

pub returns-clause-there : goal.returns-clause-there
returns-clause-there c subnets limits w place prefix s = route_is_gone w place s prefix

pub returns-clause-no_system : goal.returns-clause-no_system
returns-clause-no_system c subnets limits w place prefix none = ap (removes_route_of w place prefix) none

pub returns-clause-host : goal.returns-clause-host
returns-clause-host c subnets limits w place prefix s = no_route_goes_of_hosts w place s prefix
