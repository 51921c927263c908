use Rattle.clnp_plan.proofs.scenario_plan.plan.Scenario.migrate.Goals as goal

pub invariant_of-result : goal.invariant_of-result
invariant_of-result c =
    c.migrated_is_fit.ensures.fit
    (record { version = c.self.inside.version; limits = c.self.inside.limits; subnets = c.self.inside.subnets.items; systems = c.self.inside.systems.items; events = c.self.inside.events.items })
    c.self.invariant
