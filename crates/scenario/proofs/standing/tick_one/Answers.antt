use Rattle.std.proofs.Common.{◌+◌, sym, arith}
use Rattle.scenario.proofs.Lists.{changed_beyond, changed_is_set}
use Rattle.scenario.proofs.standing.tick_one.Goals as goal

pub returns-then-place-clocks : goal.returns-then-place-clocks
returns-then-place-clocks c =
    sym (changed_is_set (λ clock. clock + c.args.count) c.args.place c.args.clocks.now 0 (omega (arith, c.if-place-clocks.true)))

pub returns-else-place-clocks : goal.returns-else-place-clocks
returns-else-place-clocks c = sym (changed_beyond (λ clock. clock + c.args.count) c.args.place c.args.clocks.now (omega (arith, c.if-place-clocks.false)))
