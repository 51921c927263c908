use Rattle.std.specs.Prelude.{None, Some}
use Rattle.clnp_machine.proofs.Hops.{by_end_system, by_last_router, by_longest, by_neighbour, by_redirect}
use Rattle.clnp_machine.proofs.laws.next_hops_are_what_is_known.Goals as goal

pub returns-clause-redirected : goal.returns-clause-redirected
returns-clause-redirected c = by_redirect

pub returns-clause-end_system : goal.returns-clause-end_system
returns-clause-end_system c = by_end_system

pub returns-clause-intermediate_system : goal.returns-clause-intermediate_system
returns-clause-intermediate_system c s to place = by_last_router s to (Some place)

pub returns-clause-everyone : goal.returns-clause-everyone
returns-clause-everyone c s to = by_last_router s to None

pub returns-clause-neighbour : goal.returns-clause-neighbour
returns-clause-neighbour c = by_neighbour

pub returns-clause-by_route : goal.returns-clause-by_route
returns-clause-by_route c s to route = by_longest s to (Some route)

pub returns-clause-nowhere : goal.returns-clause-nowhere
returns-clause-nowhere c s to = by_longest s to None
