-- Its entity takes the step.
use Rattle.std.proofs.Common.{subst}
use Rattle.std.proofs.lemmas.Result.{on_ok_weaker}
use Rattle.clnp_machine.specs.ClnpPlan.declared.config.Role.TheVariants as role
use Rattle.clnp_machine.specs.System.{MomentComes}
use Rattle.clnp_systems.specs.Steps.{TakesStep}
use Rattle.clnp_systems.proofs.Kept.{keeps_role}
use Rattle.clnp_systems.specs.Router.State.{RouterState}
use Rattle.clnp_systems.proofs.router.Router.tick.Goals as goal

pub invariant_of-self : goal.invariant_of-self
invariant_of-self c =
    keeps_role c.tick.result (MomentComes c.args.now) c.self.inside.entity c.tick.new.self c.args.out.now.items c.tick.new.out.items role.Router
    c.tick.ensures.step c.tick.ensures.spent c.self.invariant

pub returns-clause-step : goal.returns-clause-step
returns-clause-step c =
    on_ok_weaker c.tick.result (λ took.
    subst (λ (router : RouterState). TakesStep role.Router (MomentComes c.args.now) router.entity c.tick.new.self c.args.out.now.items c.tick.new.out.items)
    c.self.view_is (took role.Router))
    c.tick.ensures.step
