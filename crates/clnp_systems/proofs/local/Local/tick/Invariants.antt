use Rattle.std.proofs.Common.{◌≡◌, ◌≤◌, ◌+◌, ◌*◌, vec_capacity, vec_len}
use Rattle.clnp_systems.proofs.Ticking.{IsAfter, IsLeft}
use Rattle.clnp_systems.proofs.local.Local.tick.Given as goal

abbrev pub invariant-loop : goal.invariant-loop
invariant-loop l = record {
  done : IsAfter l.initial.self l.self l.fn.out.items l.out.items l.now l.counter;
  left : IsLeft l.self.table l.counter l.live;
  room : vec_len l.out + 4 * l.live ≤ vec_capacity l.out + 4 * l.counter;
  config : l.self.configuration ≡ l.initial.self.configuration;
}
