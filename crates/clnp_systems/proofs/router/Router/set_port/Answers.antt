-- A port of its entity moves.
use Rattle.std.proofs.Common.{sym, subst}
use Rattle.clnp_systems.specs.EntityStands as entity
use Rattle.clnp_systems.specs.Router.State.{RouterState}
use Rattle.clnp_systems.proofs.router.Router.set_port.Goals as goal

pub returns-clause-stands : goal.returns-clause-stands
returns-clause-stands c = λ s h. c.set_port.ensures.stands s (subst (λ (router : RouterState). entity.Stands router.entity s) (sym c.self.view_is) h)
