-- One system after another is looked at.
use Rattle.std.proofs.Common.{ℕ, Option, arith, subst}
use Rattle.clnp_program.proofs.ClnpWorld.GiveSteps.{TellsPort, finds_next, finds_none, skips_more, skips_nothing}
use Rattle.clnp_program.proofs.clnp_world.network.Network.next_addressee.Goals as goal

pub loop-place-init : goal.loop-place-init
loop-place-init c = skips_nothing c.args.self.now c.args.at c.args.from

pub returns-in-Some-clause-next : goal.returns-in-Some-clause-next
returns-in-Some-clause-next c =
    let code = c.args.self.now in
    let place = c.loop-place.place in
    finds_next code c.args.at c.args.from place c.in-Some.port c.loop-place.invariant (omega (arith, code.systems.ok.0))
    (subst (λ (found : Option ℕ). TellsPort code c.args.at place found) c.in-Some.is c.port_for.ensures)

pub loop-place-preserved : goal.loop-place-preserved
loop-place-preserved c =
    let code = c.args.self.now in
    let place = c.loop-place.place in
    skips_more code c.args.at c.args.from place c.loop-place.invariant (omega (arith, code.systems.ok.0))
    (subst (λ (found : Option ℕ). TellsPort code c.args.at place found) c.in_default.is c.port_for.ensures)

pub returns-clause-next : goal.returns-clause-next
returns-clause-next c =
    let code = c.args.self.now in
    finds_none code c.args.at c.args.from c.loop-place.place c.loop-place.invariant (omega (arith, code.systems.ok.0))
