-- Its entity has the configuration of a router.
use Rattle.std.proofs.Common.{◌∙◌, ap}
use Rattle.clnp_machine.specs.ClnpPlan.Configuration.{SystemConfiguration}
use Rattle.clnp_systems.proofs.router.Router.new.Goals as goal

pub invariant_of-result : goal.invariant_of-result
invariant_of-result c =
    ap (λ (system : SystemConfiguration). system.role) (c.in_ok-entity.ensures.stands 0).parts.local.configuration ∙ c.requires.role
