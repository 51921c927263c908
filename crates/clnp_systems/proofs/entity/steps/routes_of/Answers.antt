-- No two routes of a configuration have one prefix.
use Rattle.std.proofs.Common.{◌∙◌, sym, ap, subst, List, Err}
use Rattle.clnp_machine.specs.Forwarding.Distinct.{AreDistinct}
use Rattle.clnp_machine.specs.SystemTables.declared.forwarding.route.Route.{Route}
use Rattle.clnp_systems.proofs.entity.steps.routes_of.Goals as goal

pub unreachable-requires : goal.unreachable-requires
unreachable-requires c =
    c.one_place_is_twice.ensures.none c.routes.result.now c.in-Err-Twice.field-0-0 c.in-Err-Twice.field-0-1
    (c.from_list.ensures.twice c.in-Err-Twice.field-0-0 c.in-Err-Twice.field-0-1 (c.in-Err-Twice.is ∙ ap Err c.in-Err-Twice.field-0-is))
    (subst (λ (routes : List Route). AreDistinct routes) (sym c.routes.ensures) c.is_system.ensures.distinct_routes)
