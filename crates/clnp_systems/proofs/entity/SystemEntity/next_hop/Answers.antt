-- What was heard tells it, or a router's way.
use Rattle.std.proofs.Common.{◌∙◌, sym, ap, subst, ℕ, ◌≤◌, Option, Some, option_map}
use Rattle.clnp_machine.specs.ClnpPlan.Configuration.{SystemConfiguration}
use Rattle.clnp_machine.specs.Step.{hop_by}
use Rattle.clnp_machine.specs.declared.way.Hop.{Hop}
use Rattle.clnp_machine.specs.declared.way.Way.{Way}
use Rattle.clnp_systems.specs.EntityState.{SystemEntityState}
use Rattle.clnp_systems.specs.EntityStands.{PartsStandSince}
use Rattle.clnp_systems.proofs.Hops.{of_host, of_router}
use Rattle.clnp_systems.proofs.entity.SystemEntity.next_hop.Goals as goal

pub returns-in-Host : goal.returns-in-Host
returns-in-Host c = λ s before h.
    let p = subst (λ (e : SystemEntityState). PartsStandSince before e s) (sym c.self.view_is) h in
    let role = sym (ap (λ (x : SystemConfiguration). x.role) (c.config.ensures ∙ p.local.configuration)) ∙ sym c.role.ensures ∙ c.in-Host.is in
    ap (λ (hop : Hop). Some hop) c.host_hop.ensures
    ∙ of_host s c.self.inside.moment c.args.to.now c.next_hop.result role p.moment
    (c.next_hop.ensures s before p.esis (subst (λ (n : ℕ). before ≤ n) (sym p.moment) p.since))

pub returns-in_default : goal.returns-in_default
returns-in_default c = λ s before h.
    let p = subst (λ (e : SystemEntityState). PartsStandSince before e s) (sym c.self.view_is) h in
    let role = sym (ap (λ (x : SystemConfiguration). x.role) (c.config.ensures ∙ p.local.configuration)) ∙ sym c.role.ensures ∙ c.in-Router.is in
    ap (λ (way : Option Way). option_map hop_by way) (sym c.in_default.is)
    ∙ of_router s c.args.to.now c.way.result role (c.way.ensures s before h)

pub returns-in-Some : goal.returns-in-Some
returns-in-Some c = λ s before h.
    let p = subst (λ (e : SystemEntityState). PartsStandSince before e s) (sym c.self.view_is) h in
    let role = sym (ap (λ (x : SystemConfiguration). x.role) (c.config.ensures ∙ p.local.configuration)) ∙ sym c.role.ensures ∙ c.in-Router.is in
    ap (λ (hop : Hop). Some hop) c.hop.ensures
    ∙ ap (λ (way : Option Way). option_map hop_by way) (sym c.in-Some.is)
    ∙ of_router s c.args.to.now c.way.result role (c.way.ensures s before h)
