use Rattle.std.proofs.Common.{ap, sym, subst, []}
use Rattle.clnp_machine.specs.SystemTables.declared.esis_tables.tables.Tables.{Tables}
use Rattle.clnp_machine.specs.EsisTables.Stands as esis_tables
use Rattle.clnp_systems.specs.EsisState.{EsisState}
use Rattle.clnp_systems.proofs.esis.EsisEntity.neighbour.Goals as goal

pub returns : goal.returns
returns c = λ s before h passed.
    c.system.ensures s.facts before []
    (subst (λ (tables : Tables). esis_tables.Stands tables s.facts before []) (sym (ap (λ (entity : EsisState). entity.tables) c.self.view_is)) h.tables)
    passed
