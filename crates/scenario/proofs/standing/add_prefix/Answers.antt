use Rattle.std.proofs.Common.{sym, arith}
use Rattle.clnp_plan.specs.ScenarioPlan.Standing.{with_prefix}
use Rattle.scenario.proofs.Lists.{changed_beyond, changed_if_ok}
use Rattle.scenario.proofs.standing.add_prefix.Goals as goal

pub returns-then-place-prefixes : goal.returns-then-place-prefixes
returns-then-place-prefixes c = sym (changed_beyond (with_prefix c.args.prefix) c.args.place c.args.prefixes.now (omega (arith, c.if-place-prefixes.true)))

pub returns : goal.returns
returns c =
    changed_if_ok c.add.result (with_prefix c.args.prefix) c.args.place c.args.prefixes.now c.index-prefixes-place.result c.add.new.self
    (omega (arith, c.if-place-prefixes.false)) c.add.ensures
