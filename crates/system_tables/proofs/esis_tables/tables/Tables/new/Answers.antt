use Rattle.std.proofs.Common.{[]}
use Rattle.system_tables.specs.declared.esis_tables.fact.TableKind.TheVariants.{Es, Is, Rd}
use Rattle.system_tables.proofs.EsisTables.Standing.{keeps_nothing, stands_from}
use Rattle.system_tables.proofs.esis_tables.tables.Tables.new.Goals as goal

pub returns-clause-stands : goal.returns-clause-stands
returns-clause-stands c now =
    stands_from (record { systems = c.in_ok-systems.systems; routers = c.in_ok-routers.routers; redirects = c.in_ok-redirects.redirects }) [] now (record {
      systems = keeps_nothing Es c.in_ok-systems.systems now c.in_ok-systems.ensures.empty;
      routers = keeps_nothing Is c.in_ok-routers.routers now c.in_ok-routers.ensures.empty;
      redirects = keeps_nothing Rd c.in_ok-redirects.redirects now c.in_ok-redirects.ensures.empty;
    })
