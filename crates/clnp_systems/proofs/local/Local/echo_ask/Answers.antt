use Rattle.std.proofs.Common.{sym, subst}
use Rattle.clnp_systems.specs.LocalState.{EntityState}
use Rattle.clnp_systems.specs.Local.{Stands}
use Rattle.clnp_systems.proofs.local.Local.echo_ask.Goals as goal

pub returns-clause-value : goal.returns-clause-value
returns-clause-value c = λ s stands.
    c.echo_ask.ensures.value c.self.inside.table s (subst (λ (e : EntityState). Stands e s) (sym c.self.view_is) stands)
