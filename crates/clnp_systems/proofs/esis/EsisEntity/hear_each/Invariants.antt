use Rattle.std.proofs.Common.{◌≡◌}
use Rattle.clnp_machine.specs.Esis.{hears_each}
use Rattle.clnp_machine.specs.System.{SystemState}
use Rattle.clnp_systems.specs.Does.{StaysInFront}
use Rattle.clnp_systems.specs.EsisStands.{Stands}
use Rattle.clnp_systems.proofs.Hearing.{HeardSoFar}
use Rattle.clnp_systems.proofs.esis.EsisEntity.hear_each.Given as goal

abbrev pub invariant-loop-address : goal.invariant-loop-address
invariant-loop-address l = record {
  heard : (s : SystemState) → Stands l.initial.self s → s.moment ≡ l.now
      → HeardSoFar l.now l.self l.initial.out.items l.out.items l.new l.neighbour l.hold l.address-iterator (hears_each s l.initial.address-iterator l.neighbour l.hold);
  front : StaysInFront l.initial.out.items l.out.items;
}
