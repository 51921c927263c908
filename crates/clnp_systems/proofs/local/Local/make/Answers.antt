use Rattle.std.proofs.Common.{sym, subst}
use Rattle.std.proofs.lemmas.Result.{on_ok_weaker}
use Rattle.clnp_systems.specs.LocalState.{EntityState}
use Rattle.clnp_systems.specs.Local.{Stands}
use Rattle.clnp_systems.proofs.local.Local.make.Goals as goal

pub returns-clause-answer : goal.returns-clause-answer
returns-clause-answer c = λ s stands moment.
    c.make.ensures.answer c.self.inside.table s (subst (λ (e : EntityState). Stands e s) (sym c.self.view_is) stands) moment

pub returns-clause-stands : goal.returns-clause-stands
returns-clause-stands c =
    on_ok_weaker c.make.result
    (λ makes s stands moment. makes c.self.inside.table s (subst (λ (e : EntityState). Stands e s) (sym c.self.view_is) stands) moment)
    c.make.ensures.stands

pub returns-clause-actions : goal.returns-clause-actions
returns-clause-actions c =
    on_ok_weaker c.make.result
    (λ makes s stands moment. makes c.self.inside.table s (subst (λ (e : EntityState). Stands e s) (sym c.self.view_is) stands) moment)
    c.make.ensures.actions
