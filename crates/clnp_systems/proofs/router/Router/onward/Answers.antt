-- It leaves its route, or goes on with the options behind the router.
use Rattle.std.proofs.Common.{◌≡◌, sym, subst, ℕ, List}
use Rattle.clnp_machine.specs.System.{Effect}
use Rattle.clnp_machine.specs.PduHeader.Headers.{SpellsHeader}
use Rattle.clnp_machine.specs.PduHeader.Value.{PduValue}
use Rattle.clnp_machine.specs.Unit.{value_of}
use Rattle.clnp_systems.specs.Comes.{HasValue}
use Rattle.clnp_systems.specs.EntityStands as entity
use Rattle.clnp_systems.specs.declared.passing.Passing.{Passing}
use Rattle.clnp_systems.specs.Router.Onward.{ComesTo}
use Rattle.clnp_systems.specs.Router.State.{RouterState}
use Rattle.clnp_systems.proofs.Behind.{is_header}
use Rattle.clnp_systems.proofs.Going.{off_route, on_route}
use Rattle.clnp_systems.proofs.router.Router.onward.Goals as goal

-- the header has the octets in front of the frame
own : (passing : Passing) (head : List ℕ) (v : PduValue) → head ≡ passing.head.now → HasValue passing v → SpellsHeader v head
own passing head v is has = subst (λ (h : List ℕ). SpellsHeader v h) (sym is) has.header

pub behind-requires : goal.behind-requires
behind-requires c = (c.requires.pdu.0, own c.args.passing.now c.args.head.now c.requires.pdu.0 c.requires.head c.requires.pdu.1)

pub returns-then-is_off_route-clause-head : goal.returns-then-is_off_route-clause-head
returns-then-is_off_route-clause-head c =
    (c.requires.pdu.0, own c.args.passing.now c.args.head.now c.requires.pdu.0 c.requires.head c.requires.pdu.1, c.requires.pdu.1.len)

pub returns-then-is_off_route-clause-goes : goal.returns-then-is_off_route-clause-goes
returns-then-is_off_route-clause-goes c = λ s came p following h carriable has.
    off_route s came p following c.is_off_route.result c.if-is_off_route.true
    (c.is_off_route.ensures s (value_of p) (sym (c.title-title.ensures s h)) (own c.args.passing.now c.args.head.now (value_of p) c.requires.head has))

pub onward_with-requires : goal.onward_with-requires
onward_with-requires c =
    is_header c.self.inside.entity.local.configuration c.title-title.result.now c.is_congested.result c.args.head.now c.behind.new.head
    c.args.passing.now.len c.requires.pdu.0 (own c.args.passing.now c.args.head.now c.requires.pdu.0 c.requires.head c.requires.pdu.1)
    c.requires.pdu.1.len c.behind.ensures

pub returns-clause-goes : goal.returns-clause-goes
returns-clause-goes c = λ s came p following h carriable has.
    let stands = subst (λ (router : RouterState). entity.Stands router.entity s) (sym c.self.view_is) h in
    let title = sym (c.title-title.ensures s h) in
    let spells = own c.args.passing.now c.args.head.now (value_of p) c.requires.head has in
    subst (λ (effect : Effect). ComesTo c.onward_with.result c.onward_with.new.head s came p following effect)
    (on_route s came p following c.is_off_route.result c.if-is_off_route.false (c.is_off_route.ensures s (value_of p) title spells))
    (c.onward_with.ensures.goes s came p following h carriable has
    (c.behind.ensures s (value_of p) title (sym (c.is_congested.ensures s s.moment stands.parts)) spells))
