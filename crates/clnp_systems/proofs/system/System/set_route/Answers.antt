-- Where memory is refused, the router stands for what it stood for.
use Rattle.clnp_systems.proofs.system.System.set_route.Goals as goal

pub returns-clause-same : goal.returns-clause-same
returns-clause-same c = rw c.in-Router.is c.set_route.ensures.same
