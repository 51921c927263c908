-- A unit goes by the next hop, but for one that a router has for itself.
use Rattle.std.proofs.Common.{◌≡◌, ◌∙◌, refl, sym, ap, subst, ℕ, false, List}
use Rattle.clnp_machine.specs.ClnpPlan.Configuration.{SystemConfiguration}
use Rattle.clnp_machine.specs.ClnpPlan.declared.config.Role.TheVariants.{Host, Router}
use Rattle.clnp_machine.specs.Local.{has_address, is_own}
use Rattle.clnp_machine.specs.Step.{next_hop}
use Rattle.clnp_systems.specs.EntityState.{SystemEntityState}
use Rattle.clnp_systems.specs.EntityStands.{PartsStandSince}
use Rattle.clnp_systems.proofs.Hops.{to_another}
use Rattle.clnp_systems.proofs.entity.SystemEntity.unit_hop.Goals as goal

pub returns-in-Host : goal.returns-in-Host
returns-in-Host c = λ s before u h to.
    let p = subst (λ (e : SystemEntityState). PartsStandSince before e s) (sym c.self.view_is) h in
    let role = sym (ap (λ (x : SystemConfiguration). x.role) (c.config.ensures ∙ p.local.configuration)) ∙ sym c.role.ensures ∙ c.in-Host.is in
    c.next_hop.ensures s before h ∙ ap (λ (a : List ℕ). next_hop s a) (sym to) ∙ to_another s u Host role refl

pub returns-else-is_own : goal.returns-else-is_own
returns-else-is_own c = λ s before u h to.
    let p = subst (λ (e : SystemEntityState). PartsStandSince before e s) (sym c.self.view_is) h in
    let role = sym (ap (λ (x : SystemConfiguration). x.role) (c.config.ensures ∙ p.local.configuration)) ∙ sym c.role.ensures ∙ c.in-Router.is in
    let other : is_own s u.destination ≡ false =
    ap (λ (a : List ℕ). has_address s.configuration a) to
    ∙ ap (λ (x : SystemConfiguration). has_address x c.args.to.now) (sym p.local.configuration) ∙ sym c.if-is_own.ensures in
    c.next_hop-in-Router.ensures s before h ∙ ap (λ (a : List ℕ). next_hop s a) (sym to) ∙ to_another s u Router role other
