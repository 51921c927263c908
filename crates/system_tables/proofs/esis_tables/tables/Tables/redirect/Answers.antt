use Rattle.std.proofs.Common.{◌∙◌}
use Rattle.system_tables.specs.declared.esis_tables.fact.TableKind.TheVariants.{Rd}
use Rattle.system_tables.proofs.EsisTables.Standing.{place_is, rising_is}
use Rattle.system_tables.proofs.esis_tables.tables.Tables.redirect.Goals as goal

pub returns : goal.returns
returns c facts before left stands le =
    let table = c.args.self.now.redirects in
    c.held.ensures (rising_is Rd table facts before c.args.now stands.redirects_left stands.redirects le)
    ∙ place_is Rd table facts before c.args.now stands.redirects_left stands.redirects le c.args.key.now
