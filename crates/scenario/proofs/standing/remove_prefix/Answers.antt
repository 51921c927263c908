use Rattle.std.proofs.Common.{set, sym, ap, ◌∙◌, arith}
use Rattle.clnp_plan.specs.ScenarioPlan.Standing.{without_prefix}
use Rattle.scenario.proofs.Lists.{changed_beyond, changed_is_set}
use Rattle.scenario.proofs.standing.remove_prefix.Goals as goal

pub returns-then-place-prefixes : goal.returns-then-place-prefixes
returns-then-place-prefixes c =
    ap (λ known. set c.args.prefixes.now c.args.place known) c.remove.ensures
    ∙ sym (changed_is_set (without_prefix c.args.prefix.now) c.args.place c.args.prefixes.now c.index-prefixes-place.result (omega (arith, c.if-place-prefixes.true)))

pub returns-else-place-prefixes : goal.returns-else-place-prefixes
returns-else-place-prefixes c = sym (changed_beyond (without_prefix c.args.prefix.now) c.args.place c.args.prefixes.now (omega (arith, c.if-place-prefixes.false)))
