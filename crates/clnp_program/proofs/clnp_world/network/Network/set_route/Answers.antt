-- The route is set, and its line is written.
use Rattle.std.proofs.Common.{Bool, arith, refl, subst}
use Rattle.std.proofs.lemmas.Option.{slice_get_read}
use Rattle.std.proofs.lemmas.Result.{on_ok_weaker}
use Rattle.clnp_program.specs.ClnpWorld.Changing.{SetsRoute}
use Rattle.clnp_program.proofs.ClnpWorld.ChangeSteps.{routes_nothing, routes_nowhere, routes_there}
use Rattle.clnp_program.proofs.clnp_world.network.Network.set_route.Goals as goal

pub returns-then-place-len : goal.returns-then-place-len
returns-then-place-len g c =
    routes_nowhere c.args.self.now (g.L.LineSink.taken c.args.lines.now) c.args.place c.args.route (omega (arith, c.args.self.now.systems.ok.0))

pub returns-then-not-branch : goal.returns-then-not-branch
returns-then-not-branch g c =
    let old = c.args.self.now in
    let node = c.index_mut.result.now in
    routes_nothing old (g.L.LineSink.taken c.args.lines.now) c.args.place node c.put_route.new.system c.args.route
    (slice_get_read old.systems.items _ c.args.place node refl (omega (arith, old.systems.ok.0)) c.index_mut.ensures.value)
    (subst (λ (set : Bool). SetsRoute set node c.put_route.new.system c.args.route) c.if-not-branch.true c.in_ok-put_route.ensures)

pub returns : goal.returns
returns g c =
    let old = c.args.self.now in
    let node = c.index_mut.result.now in
    on_ok_weaker c.write_note.result
    (routes_there old (g.L.LineSink.taken c.args.lines.now) (g.L.LineSink.taken c.write_note.new.lines) c.args.place node c.put_route.new.system c.args.route
    (slice_get_read old.systems.items _ c.args.place node refl (omega (arith, old.systems.ok.0)) c.index_mut.ensures.value)
    (subst (λ (set : Bool). SetsRoute set node c.put_route.new.system c.args.route) c.if-not-branch.false c.in_ok-put_route.ensures))
    c.write_note.ensures
