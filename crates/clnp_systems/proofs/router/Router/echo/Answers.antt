-- Its entity makes an echo request.
use Rattle.std.proofs.Common.{sym, subst}
use Rattle.std.proofs.lemmas.Result.{on_ok_weaker}
use Rattle.clnp_systems.specs.EntityStands as entity
use Rattle.clnp_systems.specs.Router.State.{RouterState}
use Rattle.clnp_systems.proofs.router.Router.echo.Goals as goal

pub returns-clause-stands : goal.returns-clause-stands
returns-clause-stands c =
    on_ok_weaker c.echo.result (λ stands s h.
    stands s (subst (λ (router : RouterState). entity.Stands router.entity s) (sym c.self.view_is) h))
    c.echo.ensures.stands
