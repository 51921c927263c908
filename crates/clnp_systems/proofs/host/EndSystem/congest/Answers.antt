-- Its entity is congested, or no more.
use Rattle.std.proofs.Common.{sym, subst}
use Rattle.clnp_systems.specs.EntityStands as entity
use Rattle.clnp_systems.specs.EndSystem.State.{HostState}
use Rattle.clnp_systems.proofs.host.EndSystem.congest.Goals as goal

pub returns-clause-stands : goal.returns-clause-stands
returns-clause-stands c = λ s h.
    c.congest.ensures.stands s (subst (λ (host : HostState). entity.Stands host.entity s) (sym c.self.view_is) h)
