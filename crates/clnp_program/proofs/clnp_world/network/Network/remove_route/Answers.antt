-- The route is removed, and a line tells whether there was one.
use Rattle.std.proofs.Common.{Bool, Option, arith, refl, subst}
use Rattle.std.proofs.lemmas.Option.{slice_get_read}
use Rattle.std.proofs.lemmas.Result.{on_ok_weaker}
use Rattle.clnp_program.specs.ClnpWorld.Changing.{RemovesRoute}
use Rattle.clnp_program.proofs.ClnpWorld.ChangeSteps.{unroutes_nothing, unroutes_nowhere, unroutes_there}
use Rattle.clnp_program.proofs.clnp_world.network.Network.remove_route.Goals as goal

pub returns-then-place-len : goal.returns-then-place-len
returns-then-place-len g c =
    unroutes_nowhere c.args.self.now (g.L.LineSink.taken c.args.lines.now) c.args.place c.args.prefix.now (omega (arith, c.args.self.now.systems.ok.0))

pub returns-in_default : goal.returns-in_default
returns-in_default g c =
    let old = c.args.self.now in
    let node = c.index_mut.result.now in
    unroutes_nothing old (g.L.LineSink.taken c.args.lines.now) c.args.place node c.take_route.new.system c.args.prefix.now
    (slice_get_read old.systems.items _ c.args.place node refl (omega (arith, old.systems.ok.0)) c.index_mut.ensures.value)
    (subst (λ (found : Option Bool). RemovesRoute found node c.take_route.new.system c.args.prefix.now) c.in_default.is c.take_route.ensures)

pub returns : goal.returns
returns g c =
    let old = c.args.self.now in
    let node = c.index_mut.result.now in
    on_ok_weaker c.write_note.result
    (unroutes_there old (g.L.LineSink.taken c.args.lines.now) (g.L.LineSink.taken c.write_note.new.lines) c.args.place node c.take_route.new.system c.args.prefix.now c.in-Some.there
    (slice_get_read old.systems.items _ c.args.place node refl (omega (arith, old.systems.ok.0)) c.index_mut.ensures.value)
    (subst (λ (found : Option Bool). RemovesRoute found node c.take_route.new.system c.args.prefix.now) c.in-Some.is c.take_route.ensures))
    c.write_note.ensures
