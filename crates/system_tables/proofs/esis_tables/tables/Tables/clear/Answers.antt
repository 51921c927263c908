use Rattle.std.proofs.Common.{[]}
use Rattle.system_tables.specs.declared.esis_tables.fact.TableKind.TheVariants.{Es, Is, Rd}
use Rattle.system_tables.proofs.EsisTables.Standing.{keeps_nothing, stands_from}
use Rattle.system_tables.proofs.esis_tables.tables.Tables.clear.Goals as goal

pub returns-clause-stands : goal.returns-clause-stands
returns-clause-stands c now =
    stands_from (record { systems = c.clear.new.self; routers = c.clear-2.new.self; redirects = c.clear-3.new.self }) [] now (record {
      systems = keeps_nothing Es c.clear.new.self now c.clear.ensures.empty;
      routers = keeps_nothing Is c.clear-2.new.self now c.clear-2.ensures.empty;
      redirects = keeps_nothing Rd c.clear-3.new.self now c.clear-3.ensures.empty;
    })
