-- The parts stand for the first state.
use Rattle.std.proofs.Common.{◌∙◌, refl, sym, ap, length, arith}
use Rattle.clnp_machine.specs.ClnpPlan.Configuration.{SystemConfiguration}
use Rattle.clnp_machine.specs.System.{first_state}
use Rattle.clnp_systems.proofs.entity.SystemEntity.new.Goals as goal

pub returns-clause-stands : goal.returns-clause-stands
returns-clause-stands c = λ place. record {
  not_spent = refl;
  parts = record {
    local = c.in_ok-local.ensures.stands place c.args.now;
    esis = c.in_ok-esis.ensures place c.args.limits.now c.args.quiet;
    ports = c.in_ok-ports.ensures.ports;
    routes = c.in_ok-routes.ensures;
    moment = refl;
    congested = refl;
    since = omega arith;
  };
}

pub invariant_of-result : goal.invariant_of-result
invariant_of-result c = record {
  moment = c.requires.moment;
  wide = c.in_ok-ports.ensures.wide;
  number = ap length c.in_ok-ports.ensures.ports
      ∙ ap (λ (x : SystemConfiguration). length x.ports) (sym (c.in_ok-local.ensures.stands 0 c.args.now).configuration);
  some = λ free. record {
    state = first_state 0 c.args.config.now c.args.limits.now c.args.now c.args.quiet;
    stands = returns-clause-stands c 0;
  };
}
