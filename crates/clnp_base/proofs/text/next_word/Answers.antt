use Rattle.std.proofs.Common.{sym, ◌∙◌, ◌<◌, length, arith}
use Rattle.std.proofs.lemmas.Bool.Decides.{nat_tests}
use Rattle.clnp_base.proofs.Reading.{words_of-none, words_of-one, index_of-positive}
use Rattle.clnp_base.proofs.text.next_word.Goals as goal

pub returns-then-is_empty-clause-word : goal.returns-then-is_empty-clause-word
returns-then-is_empty-clause-word c =
    sym c.without_spaces-left.ensures.words ∙ words_of-none c.without_spaces-left.result.now (grind (arith, nat_tests))

pub returns-clause-word : goal.returns-clause-word
returns-clause-word c =
    rw (← c.without_spaces-left.ensures.words, c.split_at.ensures.front, c.split_at.ensures.back)
    (words_of-one c.without_spaces-left.result.now c.index_of-end.result (grind (arith, nat_tests)) c.without_spaces-left.ensures.start (sym c.index_of-end.ensures.place))

pub returns-clause-shorter : goal.returns-clause-shorter
returns-clause-shorter c =
    let some : 0 < length c.without_spaces-left.result.now = grind (arith, nat_tests) in
    omega (arith, index_of-positive c.without_spaces-left.result.now some c.without_spaces-left.ensures.start, c.index_of-end.ensures.place)
