-- What it keeps stands for the same state, but that it is congested or not.
use Rattle.clnp_machine.specs.Step.{congest}
use Rattle.clnp_systems.proofs.EntityParts.{while_congested}
use Rattle.clnp_systems.proofs.entity.SystemEntity.congest.Goals as goal

pub invariant_of-self : goal.invariant_of-self
invariant_of-self c = record {
  moment = c.self.invariant.moment;
  wide = c.self.invariant.wide;
  number = c.self.invariant.number;
  some = λ free.
      let r = c.self.invariant.some free in
      record {
        state = (congest r.state c.args.on).after;
        stands = record { not_spent = r.stands.not_spent; parts = while_congested _ c.args.on r.state r.stands.parts };
      };
}
