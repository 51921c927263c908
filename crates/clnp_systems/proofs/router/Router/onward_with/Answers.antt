-- The way is that of the title or the destination, the source route allows it, and its port is there.
use Rattle.std.proofs.Common.{◌∙◌, sym, subst, None, Some}
use Rattle.clnp_machine.specs.ClnpOptions.Reasons.{reason_code}
use Rattle.clnp_machine.specs.Step.{options_behind}
use Rattle.clnp_machine.specs.System.{Effect}
use Rattle.clnp_machine.specs.Unit.{value_of}
use Rattle.clnp_machine.specs.PduHeader.Headers.{with_options}
use Rattle.clnp_systems.proofs.Sent.{port_at, port_missing}
use Rattle.clnp_systems.specs.EntityStands as entity
use Rattle.clnp_systems.specs.Router.Onward.{ComesTo}
use Rattle.clnp_systems.specs.Router.State.{RouterState}
use Rattle.clnp_systems.proofs.Going.{by_another, by_its_port, no_way, whither_is}
use Rattle.clnp_systems.proofs.router.Router.onward_with.Goals as goal

pub returns-in_default-clause-goes : goal.returns-in_default-clause-goes
returns-in_default-clause-goes c = λ s came p following h carriable has edited.
    let stands = subst (λ (router : RouterState). entity.Stands router.entity s) (sym c.self.view_is) h in
    let behind = options_behind s p.options in
    let towards_it = c.towards-to.ensures (with_options behind (value_of p)) edited ∙ whither_is p behind c.args.passing.now has in
    no_way s came p following behind c.towards-to.result towards_it c.way.result (reason_code c.no_way.result) c.in_default.is
    (c.way.ensures s s.moment stands.parts) (c.no_way.ensures (with_options behind (value_of p)) edited)

pub returns-then-is_barred-clause-goes : goal.returns-then-is_barred-clause-goes
returns-then-is_barred-clause-goes c = λ s came p following h carriable has edited.
    let stands = subst (λ (router : RouterState). entity.Stands router.entity s) (sym c.self.view_is) h in
    let behind = options_behind s p.options in
    let towards_it = c.towards-to.ensures (with_options behind (value_of p)) edited ∙ whither_is p behind c.args.passing.now has in
    by_another s came p following behind c.towards-to.result towards_it c.way.result c.in-Some.way c.in-Some.is (c.way.ensures s s.moment stands.parts)
    c.is_barred.result (c.is_barred.ensures (with_options behind (value_of p)) edited) c.if-is_barred.true

pub returns-in_default-get-clause-goes : goal.returns-in_default-get-clause-goes
returns-in_default-get-clause-goes c = λ s came p following h carriable has edited.
    let stands = subst (λ (router : RouterState). entity.Stands router.entity s) (sym c.self.view_is) h in
    let behind = options_behind s p.options in
    let towards_it = c.towards-to.ensures (with_options behind (value_of p)) edited ∙ whither_is p behind c.args.passing.now has in
    sym (by_its_port s came p following behind c.towards-to.result towards_it c.way.result c.in-Some.way c.in-Some.is (c.way.ensures s s.moment stands.parts)
    c.is_barred.result (c.is_barred.ensures (with_options behind (value_of p)) edited) c.ports.result.now None c.if-is_barred.false
    (c.ports.ensures.stands s s.moment stands.parts)
    (port_missing c.ports.result.now c.in-Some.way.neighbour.port c.from.result c.from.ensures c.in_default-get.ensures.lookup.0))

pub returns-clause-goes : goal.returns-clause-goes
returns-clause-goes c = λ s came p following h carriable has edited.
    let stands = subst (λ (router : RouterState). entity.Stands router.entity s) (sym c.self.view_is) h in
    let behind = options_behind s p.options in
    let towards_it = c.towards-to.ensures (with_options behind (value_of p)) edited ∙ whither_is p behind c.args.passing.now has in
    let port = c.in-Some-get.port.now in
    subst (λ (effect : Effect). ComesTo c.by_port.result c.by_port.new.head s came p following effect)
    (by_its_port s came p following behind c.towards-to.result towards_it c.way.result c.in-Some.way c.in-Some.is (c.way.ensures s s.moment stands.parts)
    c.is_barred.result (c.is_barred.ensures (with_options behind (value_of p)) edited) c.ports.result.now (Some port) c.if-is_barred.false
    (c.ports.ensures.stands s s.moment stands.parts)
    (port_at c.ports.result.now c.in-Some.way.neighbour.port c.from.result port c.from.ensures c.in-Some-get.ensures.lookup.0
    c.in-Some-get.ensures.lookup.1))
    (c.by_port.ensures.goes s came p following carriable has edited)
