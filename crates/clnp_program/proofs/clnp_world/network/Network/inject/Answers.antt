-- The frame becomes the next copy, and its line is written.
use Rattle.std.proofs.Common.{◌≡◌, ◌+◌, ℕ, [], ◌∷◌, List, Some, subst, arith, refl}
use Rattle.std.specs.Prelude.{slice_get}
use Rattle.std.proofs.lemmas.Result.{on_ok_weaker}
use Rattle.clnp_machine.specs.ClnpPlan.Journal.{Injected}
use Rattle.clnp_program.specs.ClnpWorld.Lines.{Gains}
use Rattle.clnp_program.specs.ClnpWorld.Parts.{PutsCopies}
use Rattle.clnp_program.proofs.ClnpWorld.InjectSteps.{injects_none, injects_there, outside_copy}
use Rattle.clnp_program.proofs.clnp_world.network.Network.inject.Goals as goal
use Rattle.std.proofs.lemmas.Option.{slice_get_read}

pub returns-then-place-subnets : goal.returns-then-place-subnets
returns-then-place-subnets g c =
    injects_none c.args.self.now (g.L.LineSink.taken c.args.lines.now) c.args.subnets.now c.args.subnet c.args.from c.args.to c.args.octets.now (omega arith)

pub returns : goal.returns
returns g c =
    let old = c.args.self.now in
    let declared = c.index-subnets-place.result in
    let there = subst (λ (place : ℕ). slice_get c.args.subnets.now place ≡ Some declared) c.from-place.ensures
    (slice_get_read c.args.subnets.now _ c.from-place.result declared refl (omega arith) c.index-subnets-place.is) in
    let line = subst (λ (name : List ℕ). Gains (g.L.LineSink.taken c.args.lines.now) (g.L.LineSink.taken c.take.new.self) (Injected old.clock (c.len.result + 1) name c.args.from c.args.to ∷ []))
    c.name.ensures c.in_ok-take.ensures in
    on_ok_weaker c.push_copy.result (λ put.
    injects_there c.octets_have_a_content.ensures.frame c.octets_have_a_content.ensures.carried old c.push_copy.new.self (g.L.LineSink.taken c.args.lines.now) (g.L.LineSink.taken c.take.new.self) c.args.subnets.now c.args.subnet c.len.result
    declared c.args.from c.args.to c.args.octets.now there c.requires.bytes c.requires.few (omega (arith, c.len.ensures, old.copies.ok.0)) line
    (subst (λ (frame : List ℕ). PutsCopies old c.push_copy.new.self (outside_copy c.args.subnet c.args.from c.args.to old.clock frame ∷ []))
    c.in_ok-frame.ensures put)
    c.push_copy.ensures.others)
    c.push_copy.ensures.puts
