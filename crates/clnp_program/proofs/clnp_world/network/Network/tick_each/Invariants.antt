use Rattle.std.proofs.Common.{◌≡◌, vec_len}
use Rattle.clnp_program.proofs.ClnpWorld.TickSteps.{TicksTo}
use Rattle.clnp_program.proofs.clnp_world.network.Network.tick_each.Given as goal

abbrev pub invariant-loop-place : goal.invariant-loop-place
invariant-loop-place g l = record {
  ticks : TicksTo l.initial.self l.self (g.L.LineSink.taken l.initial.lines) (g.L.LineSink.taken l.lines) l.place;
  systems : vec_len l.self.systems ≡ vec_len l.initial.self.systems;
  clock : l.self.clock ≡ l.initial.self.clock;
}
