-- Its entity tells it.
use Rattle.std.proofs.Common.{sym, subst}
use Rattle.clnp_systems.specs.EntityStands as entity
use Rattle.clnp_systems.specs.Router.State.{RouterState}
use Rattle.clnp_systems.proofs.router.Router.next_hop.Goals as goal

pub returns : goal.returns
returns c = λ s h.
    let stands = subst (λ (router : RouterState). entity.Stands router.entity s) (sym c.self.view_is) h in
    c.way.ensures s s.moment stands.parts
