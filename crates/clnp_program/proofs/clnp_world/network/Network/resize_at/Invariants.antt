use Rattle.std.proofs.Common.{◌≡◌, vec_len}
use Rattle.std.specs.List.{range_with_len}
use Rattle.clnp_machine.specs.ClnpNetwork.LabelledNetwork as network
use Rattle.clnp_program.specs.ClnpWorld.Parts.{Changes}
use Rattle.clnp_program.proofs.clnp_world.network.Network.resize_at.Given as goal

abbrev pub invariant-loop-number : goal.invariant-loop-number
invariant-loop-number l = record {
  changes : Changes l.initial.self l.self (λ model. network.resizes_ports model l.place l.subnet l.mtu (range_with_len 0 l.number));
  systems : vec_len l.self.systems ≡ vec_len l.initial.self.systems;
}
