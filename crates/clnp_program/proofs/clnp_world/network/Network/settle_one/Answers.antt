-- The copy at the cursor is given, and the cursor moves on.
use Rattle.std.proofs.Common.{◌+◌, arith}
use Rattle.std.proofs.lemmas.Result.{on_ok_weaker}
use Rattle.clnp_program.proofs.ClnpWorld.GiveSteps.{moves_on, settles, settles_no_copy}
use Rattle.clnp_program.proofs.clnp_world.network.Network.settle_one.Goals as goal

pub give_each-requires-clause-running : goal.give_each-requires-clause-running
give_each-requires-clause-running g c =
    let model = c.requires.0 in
    (record model { cursor = model.cursor + 1 }, moves_on c.args.self.now model c.requires.1)

pub returns-then-at-len : goal.returns-then-at-len
returns-then-at-len g c =
    settles_no_copy c.args.self.now (g.L.LineSink.taken c.args.lines.now) c.args.limits (omega (arith, c.args.self.now.copies.ok.0))

pub returns : goal.returns
returns g c =
    on_ok_weaker c.give_each.result
    (settles c.args.self.now c.give_each.new.self (g.L.LineSink.taken c.args.lines.now) (g.L.LineSink.taken c.give_each.new.lines) c.args.limits
    (omega (arith, c.args.self.now.copies.ok.0)))
    c.give_each.ensures
