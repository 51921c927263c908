use Rattle.std.proofs.Common.{sym, ◌∙◌, arith}
use Rattle.scenario.proofs.Clocks.{ahead_of_others, none_ahead}
use Rattle.scenario.proofs.standing.runs_ahead.Goals as goal

pub returns-then-place-clocks : goal.returns-then-place-clocks
returns-then-place-clocks c = sym (none_ahead c.args.count c.args.place c.args.skew c.args.clocks.now (omega (arith, c.if-place-clocks.true)))

pub returns : goal.returns
returns c =
    c.is_above_both.ensures
    ∙ ahead_of_others c.args.count c.args.place c.args.skew c.args.clocks.now (omega (arith, c.if-place-clocks.false)) c.ticked-clock.result c.ticked-clock.ensures
    c.split_at.result.0.now c.split_at-2.result.1.now c.split_at.ensures.front c.split_at-2.ensures.back
