-- The network's clock is passed, or it isn't, and then the system's goes on.
use Rattle.std.proofs.Common.{arith}
use Rattle.std.proofs.lemmas.Result.{on_ok_weaker}
use Rattle.clnp_program.proofs.ClnpWorld.TickSteps.{alone_early, alone_runs, ticks_alone, ticks_nobody}
use Rattle.clnp_program.proofs.clnp_world.network.Network.tick_system.Goals as goal

pub returns-then-place-len : goal.returns-then-place-len
returns-then-place-len g c = ticks_nobody c.args.self.now (g.L.LineSink.taken c.args.lines.now) c.args.place (omega (arith, c.args.self.now.systems.ok.0))

pub go_on-requires-clause-running : goal.go_on-requires-clause-running
go_on-requires-clause-running g c =
    alone_runs c.args.self.now c.args.place c.moment_at-now.result c.max-self.result (omega (arith, c.args.self.now.systems.ok.0))
    c.moment_at-now.ensures.moment c.max-self.ensures c.requires.running

pub go_on-requires-clause-clock : goal.go_on-requires-clause-clock
go_on-requires-clause-clock g c =
    alone_early c.args.self.now c.args.place c.moment_at-now.result c.max-self.result (omega (arith, c.args.self.now.systems.ok.0))
    c.moment_at-now.ensures.moment c.max-self.ensures c.requires.running c.requires.clock

pub returns : goal.returns
returns g c =
    on_ok_weaker c.go_on.result
    (ticks_alone c.args.self.now c.go_on.new.self (g.L.LineSink.taken c.args.lines.now) (g.L.LineSink.taken c.go_on.new.lines) c.args.place c.moment_at-now.result c.max-self.result
    (omega (arith, c.args.self.now.systems.ok.0)) c.moment_at-now.ensures.moment c.max-self.ensures)
    c.go_on.ensures.follows
