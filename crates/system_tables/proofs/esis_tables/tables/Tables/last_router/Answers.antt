use Rattle.std.proofs.Common.{◌∙◌}
use Rattle.system_tables.specs.declared.esis_tables.fact.TableKind.TheVariants.{Is}
use Rattle.system_tables.proofs.EsisTables.Standing.{last_is}
use Rattle.system_tables.proofs.esis_tables.tables.Tables.last_router.Goals as goal

pub returns : goal.returns
returns c facts before left stands le =
    c.last_held.ensures ∙ last_is Is c.args.self.now.routers facts before c.args.now stands.routers_left stands.routers le
