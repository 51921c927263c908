-- The router has the port, and its route is set.
use Rattle.std.proofs.Common.{◌<◌, ◌∙◌, List, length, ap, arith, subst, sym}
use Rattle.clnp_machine.specs.ClnpPlan.Configuration.{SystemConfiguration}
use Rattle.clnp_machine.specs.ClnpPlan.declared.config.PortConfig.{PortConfig}
use Rattle.clnp_program.proofs.clnp_world.network.changing.put_route.Goals as goal

pub returns-in_ok-set_route-in-Router : goal.returns-in_ok-set_route-in-Router
returns-in_ok-set_route-in-Router c = λ s h. record {
  router = ap (λ (system : SystemConfiguration). system.role) (sym h.parts.local.configuration)
      ∙ ap (λ (system : SystemConfiguration). system.role) (sym c.config.ensures) ∙ sym c.role.ensures ∙ c.in-Router.is;
  leads = subst (λ (ports : List PortConfig). c.args.route.port < length ports) (c.ports.ensures.stands s h) (omega arith);
  goes = c.in_ok-set_route-in-Router.ensures.stands s h;
}
