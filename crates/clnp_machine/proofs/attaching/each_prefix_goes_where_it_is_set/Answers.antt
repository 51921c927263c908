use Rattle.std.proofs.Common.{refl}
use Rattle.clnp_machine.proofs.attaching.each_prefix_goes_where_it_is_set.Goals as goal

pub returns-clause-by_ports : goal.returns-clause-by_ports
returns-clause-by_ports c = λ a number mtu port. (refl, refl)

pub returns-clause-by_routes : goal.returns-clause-by_routes
returns-clause-by_routes c = λ a route prefix. (refl, refl)

pub returns-clause-set : goal.returns-clause-set
returns-clause-set c = λ a route. c.each_prefix_has_its_route.ensures.set route a.routes

pub returns-clause-gone : goal.returns-clause-gone
returns-clause-gone c = λ a prefix. c.each_prefix_has_its_route.ensures.removed prefix a.routes

pub returns-clause-others_set : goal.returns-clause-others_set
returns-clause-others_set c = λ a route other differ. c.each_prefix_has_its_route.ensures.others_set route other a.routes differ

pub returns-clause-others_gone : goal.returns-clause-others_gone
returns-clause-others_gone c = λ a prefix other differ. c.each_prefix_has_its_route.ensures.others_removed prefix other a.routes differ
