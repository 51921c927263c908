use Rattle.std.proofs.Common.{◌∙◌}
use Rattle.system_tables.specs.declared.esis_tables.fact.TableKind.TheVariants.{Es}
use Rattle.system_tables.proofs.EsisTables.Standing.{place_is, rising_is}
use Rattle.system_tables.proofs.esis_tables.tables.Tables.system.Goals as goal

pub returns : goal.returns
returns c facts before left stands le =
    let table = c.args.self.now.systems in
    c.held.ensures (rising_is Es table facts before c.args.now stands.systems_left stands.systems le)
    ∙ place_is Es table facts before c.args.now stands.systems_left stands.systems le c.args.key.now
