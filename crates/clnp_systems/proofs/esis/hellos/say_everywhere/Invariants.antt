use Rattle.std.proofs.Common.{◌≡◌, ℕ, map, None}
use Rattle.std.specs.List.{range_with_len}
use Rattle.clnp_machine.specs.Esis.{hearers, own_hello}
use Rattle.clnp_machine.specs.Given.{Appends}
use Rattle.clnp_machine.specs.System.{SendsEsis, SystemState}
use Rattle.clnp_systems.specs.Does.{StaysInFront}
use Rattle.clnp_systems.proofs.esis.hellos.say_everywhere.Given as goal

abbrev pub invariant-loop-port : goal.invariant-loop-port
invariant-loop-port l = record {
  said : (s : SystemState) (moment : ℕ) → s.configuration ≡ l.config → s.hello ≡ l.period
      → Appends moment None l.initial.out.items l.out.items
      (map (λ port. SendsEsis port (hearers s.configuration.role) (own_hello s)) (range_with_len 0 l.port));
  front : StaysInFront l.initial.out.items l.out.items;
}
