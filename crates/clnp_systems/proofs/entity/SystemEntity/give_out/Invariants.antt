use Rattle.std.proofs.Common.{◌≡◌, take, drop}
use Rattle.clnp_systems.specs.Does.{StaysInFront}
use Rattle.clnp_systems.proofs.Outputs.{GivesOut}
use Rattle.clnp_systems.proofs.entity.SystemEntity.give_out.Given as goal

abbrev pub invariant-loop-action : goal.invariant-loop-action
invariant-loop-action l = record {
  given : GivesOut l.self l.initial.out.items l.out.items (take l.action-index l.initial.action-items);
  left : drop l.action-index l.action-items ≡ drop l.action-index l.initial.action-items;
  front : StaysInFront l.initial.out.items l.out.items;
}
