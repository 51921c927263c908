use Rattle.std.proofs.Common.{◌≡◌, ◌≤◌, take, vec_len}
use Rattle.clnp_program.proofs.ClnpWorld.PutSteps.{PutsOut}
use Rattle.clnp_program.proofs.clnp_world.network.Network.put_all_out.Given as goal

abbrev pub invariant-loop-at : goal.invariant-loop-at
invariant-loop-at g l = record {
  puts : PutsOut l.initial.self l.self (g.L.LineSink.taken l.initial.lines) (g.L.LineSink.taken l.lines) l.place l.came (take l.at l.initial.self.outputs.items);
  systems : l.self.systems ≡ l.initial.self.systems;
  clock : l.self.clock ≡ l.initial.self.clock;
  outputs : l.self.outputs ≡ l.initial.self.outputs;
  copies : vec_len l.initial.self.copies ≤ vec_len l.self.copies;
}
