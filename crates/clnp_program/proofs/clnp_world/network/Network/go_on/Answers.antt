-- The system's next moment comes to it.
use Rattle.std.proofs.Common.{◌+◌, arith, refl}
use Rattle.std.proofs.lemmas.Result.{on_ok_weaker}
use Rattle.clnp_program.proofs.ClnpWorld.TakeSteps.{no_frame}
use Rattle.clnp_program.proofs.ClnpWorld.TickSteps.{goes_on_there, next_may_come}
use Rattle.clnp_program.proofs.clnp_world.network.Network.go_on.Goals as goal

pub comes-requires : goal.comes-requires
comes-requires g c = λ node here.
    next_may_come c.args.self.now c.args.place c.moment_at-now.result (c.moment_at-now.result + 1) node c.requires.running
    c.moment_at-now.ensures.moment refl c.requires.clock here

pub returns-clause-follows : goal.returns-clause-follows
returns-clause-follows g c =
    on_ok_weaker c.comes.result (λ comes.
    goes_on_there c.args.self.now c.comes.new.self (g.L.LineSink.taken c.args.lines.now) (g.L.LineSink.taken c.comes.new.lines) c.args.place c.moment_at-now.result (c.moment_at-now.result + 1)
    (omega (arith, c.args.self.now.systems.ok.0)) c.moment_at-now.ensures.moment refl (λ model h timely. comes model no_frame h tt tt timely))
    c.comes.ensures.follows
