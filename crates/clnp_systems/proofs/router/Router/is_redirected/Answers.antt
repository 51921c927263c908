-- The packet calls for a redirect, and its source is known to be there.
use Rattle.std.proofs.Common.{◌∙◌, sym, ap, subst, Bool}
use Rattle.std.specs.Prelude.{◌&&◌}
use Rattle.clnp_machine.specs.ClnpPlan.Configuration.{SystemConfiguration}
use Rattle.clnp_machine.specs.ClnpPlan.declared.config.Settings.{Settings}
use Rattle.clnp_machine.specs.Step.{is_at}
use Rattle.clnp_systems.specs.EntityStands as entity
use Rattle.clnp_systems.specs.Router.State.{RouterState}
use Rattle.clnp_systems.proofs.Better.{source_decides}
use Rattle.clnp_systems.proofs.router.Router.is_redirected.Goals as goal

pub returns : goal.returns
returns c = λ s p options h has titled.
    let stands = subst (λ (router : RouterState). entity.Stands router.entity s) (sym c.self.view_is) h in
    let told = ap (λ (settings : Settings). settings.rhold) c.settings.ensures
    ∙ ap (λ (x : SystemConfiguration). x.settings.rhold) (c.config.ensures ∙ stands.parts.local.configuration) in
    c.is_at.ensures ∙ ap (λ (may : Bool). may && is_at c.args.came.now c.neighbour.result) (sym c.if-not-may_be_redirected.false)
    ∙ source_decides s c.args.came.now p options c.args.way.now c.args.passing.now c.neighbour.result c.settings.result.now.rhold c.args.towards_title
    c.may_be_redirected.result has titled
    (c.neighbour.ensures s s.moment stands.parts) told c.may_be_redirected.ensures
