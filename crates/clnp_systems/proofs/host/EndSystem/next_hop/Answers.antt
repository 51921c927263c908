-- A host always knows where it sends.
use Rattle.std.proofs.Common.{◌≡◌, ◌∙◌, sym, ap, subst, None, Option, Some}
use Rattle.clnp_machine.specs.ClnpPlan.Configuration.{SystemConfiguration}
use Rattle.clnp_machine.specs.ClnpPlan.declared.config.Role.{Role}
use Rattle.clnp_machine.specs.Step.{hop_of, host_hop, next_hop}
use Rattle.clnp_machine.specs.declared.way.Hop.{Hop}
use Rattle.clnp_machine.specs.EsisTables.NextHop as heard
use Rattle.clnp_systems.specs.EntityStands as entity
use Rattle.clnp_systems.specs.EndSystem.State.{HostState}
use Rattle.clnp_systems.proofs.host.EndSystem.next_hop.Goals as goal

pub returns-in-Some : goal.returns-in-Some
returns-in-Some c = λ s h.
    let stands = subst (λ (host : HostState). entity.Stands host.entity s) (sym c.self.view_is) h in
    (c.in-Some.hop.port, sym (c.next_hop.ensures s s.moment stands.parts) ∙ c.in-Some.is)

pub returns-in-None : goal.returns-in-None
returns-in-None c = λ s h.
    let stands = subst (λ (host : HostState). entity.Stands host.entity s) (sym c.self.view_is) h in
    let role = ap (λ (system : SystemConfiguration). system.role) (sym stands.parts.local.configuration) ∙ c.self.invariant in
    let some : next_hop s c.args.to.now ≡ Some (host_hop (heard.next_hop s.moment c.args.to.now s.facts))
    = ap (λ (r : Role). hop_of r s c.args.to.now) role in
    let none : next_hop s c.args.to.now ≡ (let nowhere : Option Hop = None in nowhere)
    = sym (c.next_hop.ensures s s.moment stands.parts) ∙ c.in-None.is in
    absurd (cc)
