-- The entity tells it, or nobody does.
use Rattle.std.proofs.Common.{◌∙◌, refl, sym, subst, false, List, None}
use Rattle.clnp_machine.specs.Given.{Appends}
use Rattle.clnp_machine.specs.System.{Output}
use Rattle.clnp_systems.proofs.Better.{told_is}
use Rattle.clnp_systems.proofs.router.Router.redirect.Goals as goal
use Rattle.clnp_systems.proofs.Going.{appends_none}

pub returns-clause-outputs : goal.returns-clause-outputs
returns-clause-outputs c = λ s p options h has titled.
    subst (λ (others : List Output). Appends s.moment None c.args.out.now.items c.args.out.now.items others)
    (told_is s c.args.came.now p options c.args.way.now false (sym c.if-is_redirected.false ∙ c.is_redirected.ensures s p options h has titled))
    (appends_none s.moment None c.args.out.now.items c.args.out.now.items refl)
