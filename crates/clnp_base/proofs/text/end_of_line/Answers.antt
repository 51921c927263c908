use Rattle.std.proofs.Common.{sym, ◌∙◌, arith}
use Rattle.clnp_base.proofs.Reading.{index_of-front}
use Rattle.clnp_base.proofs.text.end_of_line.Goals as goal

pub returns-then-end-front-clause-place : goal.returns-then-end-front-clause-place
returns-then-end-front-clause-place c =
    let found = c.index_of-end.ensures.place in
    found ∙ sym (index_of-front 10 c.args.text.now c.min.result (omega (arith, found, c.if-end-front.true)))
