-- A route of its entity is gone.
use Rattle.std.proofs.Common.{sym, subst}
use Rattle.clnp_systems.specs.EntityStands as entity
use Rattle.clnp_systems.specs.Router.State.{RouterState}
use Rattle.clnp_systems.proofs.router.Router.remove_route.Goals as goal

pub returns-clause-there : goal.returns-clause-there
returns-clause-there c = λ s h. c.remove_route.ensures.there s (subst (λ (router : RouterState). entity.Stands router.entity s) (sym c.self.view_is) h)

pub returns-clause-stands : goal.returns-clause-stands
returns-clause-stands c = λ s h. c.remove_route.ensures.stands s (subst (λ (router : RouterState). entity.Stands router.entity s) (sym c.self.view_is) h)
