-- Only a host that was asked for through a group answers.
use Rattle.std.proofs.Common.{◌∙◌, refl, sym, ap, subst, None}
use Rattle.std.proofs.lemmas.Result.{on_ok_weaker}
use Rattle.clnp_machine.specs.ClnpPlan.Configuration.{SystemConfiguration}
use Rattle.clnp_machine.specs.Given.{Appends}
use Rattle.clnp_machine.specs.System.{Effect}
use Rattle.clnp_systems.specs.EntityState.{SystemEntityState}
use Rattle.clnp_systems.specs.EntityStands.{PartsStand}
use Rattle.clnp_systems.proofs.Receipt.{alone_is_quiet, host_responds, router_is_quiet}
use Rattle.clnp_systems.proofs.entity.SystemEntity.respond.Goals as goal
use Rattle.clnp_systems.proofs.Outputs.{appends_none}

pub returns-then-not-group-clause-told : goal.returns-then-not-group-clause-told
returns-then-not-group-clause-told c = λ s p h alive own.
    subst (λ (e : Effect). Appends s.moment None c.args.out.now.items c.args.out.now.items e.outputs) (sym (alone_is_quiet s c.args.neighbour c.args.group p (search)))
    (appends_none s.moment None c.args.out.now.items c.args.out.now.items refl)

pub returns-in-Host-clause-told : goal.returns-in-Host-clause-told
returns-in-Host-clause-told c =
    on_ok_weaker c.tell.result
    (λ told s p h alive own.
    let parts = subst (λ (e : SystemEntityState). PartsStand e s) (sym c.self.view_is) h in
    let role = sym (ap (λ (x : SystemConfiguration). x.role) (c.config.ensures ∙ parts.local.configuration)) ∙ sym c.role.ensures ∙ c.in-Host.is in
    subst (λ (e : Effect). Appends s.moment None c.args.out.now.items c.tell.new.out.items e.outputs) (sym (host_responds s c.args.neighbour c.args.group p role (search) alive own))
    (told s s.moment parts.esis (sym parts.local.configuration ∙ sym c.config-in-Host.ensures)))
    c.tell.ensures.told

pub returns-in-Router-clause-told : goal.returns-in-Router-clause-told
returns-in-Router-clause-told c = λ s p h alive own.
    let parts = subst (λ (e : SystemEntityState). PartsStand e s) (sym c.self.view_is) h in
    let role = sym (ap (λ (x : SystemConfiguration). x.role) (c.config.ensures ∙ parts.local.configuration)) ∙ sym c.role.ensures ∙ c.in-Router.is in
    subst (λ (e : Effect). Appends s.moment None c.args.out.now.items c.args.out.now.items e.outputs) (sym (router_is_quiet s c.args.neighbour c.args.group p role))
    (appends_none s.moment None c.args.out.now.items c.args.out.now.items refl)
