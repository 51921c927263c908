use Rattle.std.proofs.Common.{◌≡◌, vec_len}
use Rattle.std.specs.List.{range_with_len}
use Rattle.clnp_machine.specs.ClnpNetwork.LabelledNetwork as network
use Rattle.clnp_program.specs.ClnpWorld.Parts.{Changes}
use Rattle.clnp_program.proofs.clnp_world.network.Network.resize_each.Given as goal

abbrev pub invariant-loop-place : goal.invariant-loop-place
invariant-loop-place l = record {
  changes : Changes l.initial.self l.self (λ model. network.resizes_each model l.subnet l.mtu (range_with_len 0 l.place));
  systems : vec_len l.self.systems ≡ vec_len l.initial.self.systems;
}
