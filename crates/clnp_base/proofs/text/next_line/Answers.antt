use Rattle.std.proofs.Common.{sym, ◌∙◌, arith}
use Rattle.clnp_base.proofs.Reading.{lines_of-at, lines_of-one}
use Rattle.std.proofs.lemmas.Bool.Decides.{nat_tests}
use Rattle.clnp_base.proofs.text.next_line.Goals as goal

pub returns-then-end-text-clause-line : goal.returns-then-end-text-clause-line
returns-then-end-text-clause-line c =
    lines_of-one c.args.text.now (grind (arith, nat_tests)) (sym c.end_of_line-end.ensures.place ∙ c.if-end-text.true)

pub returns-clause-line : goal.returns-clause-line
returns-clause-line c =
    rw (c.without_return.ensures, c.split_at.ensures.back)
    (lines_of-at c.args.text.now c.end_of_line-end.result (sym c.end_of_line-end.ensures.place) (omega arith))
