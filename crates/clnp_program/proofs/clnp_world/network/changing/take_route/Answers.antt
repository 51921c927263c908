-- The router's route is removed.
use Rattle.std.proofs.Common.{◌∙◌, ap, sym}
use Rattle.clnp_machine.specs.ClnpPlan.Configuration.{SystemConfiguration}
use Rattle.clnp_program.proofs.clnp_world.network.changing.take_route.Goals as goal

pub returns-in-Router : goal.returns-in-Router
returns-in-Router c = λ s h. record {
  router = ap (λ (system : SystemConfiguration). system.role) (sym h.parts.local.configuration)
      ∙ ap (λ (system : SystemConfiguration). system.role) (sym c.config.ensures) ∙ sym c.role.ensures ∙ c.in-Router.is;
  was_there = c.remove_route.ensures.there s h;
  goes = c.remove_route.ensures.stands s h;
}
