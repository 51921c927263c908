-- One system after another.
use Rattle.std.proofs.Common.{◌∙◌, arith}
use Rattle.clnp_program.proofs.ClnpWorld.TickSteps.{next_may, ticks_all, ticks_more}
use Rattle.clnp_program.proofs.clnp_world.network.Network.tick_each.Goals as goal

pub go_on-requires-clause-running : goal.go_on-requires-clause-running
go_on-requires-clause-running g c =
    next_may c.args.self.now c.loop-place.self (g.L.LineSink.taken c.args.lines.now) (g.L.LineSink.taken c.loop-place.lines) c.loop-place.place c.requires.running c.loop-place.invariant.ticks

pub loop-place-preserved : goal.loop-place-preserved
loop-place-preserved g c = record {
  ticks = ticks_more c.args.self.now c.loop-place.self c.go_on.new.self (g.L.LineSink.taken c.args.lines.now) (g.L.LineSink.taken c.loop-place.lines) (g.L.LineSink.taken c.go_on.new.lines) c.loop-place.place
      c.loop-place.invariant.ticks c.in_ok-go_on.ensures.follows;
  systems = c.in_ok-go_on.ensures.systems ∙ c.loop-place.invariant.systems;
  clock = c.in_ok-go_on.ensures.clock ∙ c.loop-place.invariant.clock;
}

pub returns : goal.returns
returns g c =
    ticks_all c.args.self.now c.loop-place.self (g.L.LineSink.taken c.args.lines.now) (g.L.LineSink.taken c.loop-place.lines) c.loop-place.place c.loop-place.invariant.ticks
    (omega (arith, c.args.self.now.systems.ok.0))
