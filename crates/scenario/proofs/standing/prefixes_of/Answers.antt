use Rattle.std.proofs.Common.{◌<◌, length, map, ap, ◌∙◌}
use Rattle.clnp_plan.specs.SystemTables.declared.forwarding.route.Route.{Route}
use Rattle.clnp_plan.specs.ScenarioPlan.Standing.{prefixes_of}
use Rattle.scenario.proofs.Lists.{mapped_more}
use Rattle.scenario.proofs.standing.prefixes_of.Goals as goal

pub loop-system-preserved : goal.loop-system-preserved
loop-system-preserved c =
    let within : c.loop-system.system-index < length c.args.systems.now = c.loop-system-test.true in
    rw c.in_ok-push.ensures.items
    (mapped_more prefixes_of c.args.systems.now c.loop-system.prefixes.items c.loop-system.system-index c.system-item.result c.in_ok-of.field-0 within c.loop-system.invariant
    (c.in_ok-of.ensures ∙ (ap (map (λ (route : Route). route.prefix)) c.routes.ensures ∙ ap prefixes_of c.system-item.is)))
