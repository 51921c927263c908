-- A copy is lost, where one is left.
use Rattle.std.proofs.Common.{arith}
use Rattle.std.proofs.lemmas.Result.{on_ok_weaker}
use Rattle.clnp_program.proofs.ClnpWorld.GiveSteps.{loses, loses_none}
use Rattle.clnp_program.proofs.clnp_world.network.Network.lose_one.Goals as goal

pub returns-then-self-len : goal.returns-then-self-len
returns-then-self-len g c = loses_none c.args.self.now (g.L.LineSink.taken c.args.lines.now) (omega (arith, c.args.self.now.copies.ok.0))

pub returns : goal.returns
returns g c =
    on_ok_weaker c.take.result
    (loses c.args.self.now (g.L.LineSink.taken c.args.lines.now) (g.L.LineSink.taken c.take.new.self) (omega (arith, c.args.self.now.copies.ok.0)))
    c.take.ensures
