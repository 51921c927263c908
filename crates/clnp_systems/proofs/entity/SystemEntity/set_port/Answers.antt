-- It stands for the state whose port moved.
use Rattle.std.proofs.Common.{◌∙◌, length-set, arith}
use Rattle.clnp_machine.specs.Change.{PortIsAt}
use Rattle.clnp_machine.specs.Step.{as_changed}
use Rattle.clnp_systems.specs.Seen.{state_of}
use Rattle.clnp_systems.proofs.Changing.{while_moved, wide_set}
use Rattle.clnp_systems.proofs.entity.SystemEntity.set_port.Goals as goal

pub invariant_of-self : goal.invariant_of-self
invariant_of-self c = record {
  moment = c.self.invariant.moment;
  wide = wide_set c.self.inside.ports.items c.from.result c.args.config c.self.invariant.wide
      (record { transit = record { least = c.requires.transit; most = omega arith }; mtu = record { least = c.requires.mtu; most = omega arith } });
  number = length-set c.self.inside.ports.items c.from.result c.args.config ∙ c.self.invariant.number;
  some = λ free.
      let r = c.self.invariant.some free in
      record {
        state = as_changed (PortIsAt c.args.port c.args.config) r.state;
        stands = record {
          not_spent = r.stands.not_spent;
          parts = while_moved (state_of c.self.inside) c.args.port c.from.result c.args.config c.greets_again.new.self r.state c.from.ensures
              c.greets_again.ensures r.stands.parts;
        };
      };
}
