use Rattle.std.proofs.Common.{ap, sym, subst, []}
use Rattle.clnp_machine.specs.SystemTables.declared.esis_tables.tables.Tables.{Tables}
use Rattle.clnp_machine.specs.EsisTables.Stands as esis_tables
use Rattle.clnp_systems.specs.EsisState.{EsisState}
use Rattle.clnp_systems.proofs.LookingUp.{by_redirect, by_router, by_system}
use Rattle.clnp_systems.proofs.esis.EsisEntity.next_hop.Goals as goal

pub returns-in-Some : goal.returns-in-Some
returns-in-Some c = λ s before h passed.
    let stands = subst (λ (tables : Tables). esis_tables.Stands tables s.facts before []) (sym (ap (λ (entity : EsisState). entity.tables) c.self.view_is)) h.tables in
    by_redirect c.args.now c.args.to.now s.facts c.in-Some.neighbour (c.in-Some.ensures s.facts before [] stands passed)

pub returns-in-Some-system : goal.returns-in-Some-system
returns-in-Some-system c = λ s before h passed.
    let stands = subst (λ (tables : Tables). esis_tables.Stands tables s.facts before []) (sym (ap (λ (entity : EsisState). entity.tables) c.self.view_is)) h.tables in
    by_system c.args.now c.args.to.now s.facts c.in-Some-system.neighbour (c.in_default.ensures s.facts before [] stands passed)
    (c.in-Some-system.ensures s.facts before [] stands passed)

pub returns : goal.returns
returns c = λ s before h passed.
    let stands = subst (λ (tables : Tables). esis_tables.Stands tables s.facts before []) (sym (ap (λ (entity : EsisState). entity.tables) c.self.view_is)) h.tables in
    by_router c.args.now c.args.to.now s.facts c.last_router.result (c.in_default.ensures s.facts before [] stands passed)
    (c.in_default-system.ensures s.facts before [] stands passed) (c.last_router.ensures s.facts before [] stands passed)
