-- Its entity's routes are set.
use Rattle.std.proofs.Common.{sym, subst}
use Rattle.std.proofs.lemmas.Result.{on_err_weaker, on_ok_weaker}
use Rattle.clnp_systems.specs.EntityStands as entity
use Rattle.clnp_systems.specs.Router.State.{RouterState}
use Rattle.clnp_systems.proofs.router.Router.set_route.Goals as goal

pub returns-clause-stands : goal.returns-clause-stands
returns-clause-stands c =
    on_ok_weaker c.set_route.result
    (λ sets s h. sets s (subst (λ (router : RouterState). entity.Stands router.entity s) (sym c.self.view_is) h))
    c.set_route.ensures.stands

pub returns-clause-same : goal.returns-clause-same
returns-clause-same c =
    on_err_weaker c.set_route.result
    (λ same s h. same s (subst (λ (router : RouterState). entity.Stands router.entity s) (sym c.self.view_is) h))
    c.set_route.ensures.same
