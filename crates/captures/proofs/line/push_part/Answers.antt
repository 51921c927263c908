use Rattle.std.proofs.Common.{◌≡◌, ◌++◌, ℕ, OnOk, codes, subst}
use Rattle.std.specs.Fmt.{decimal}
use Rattle.captures.specs.Words.{pair_word}
use Rattle.captures.proofs.Pieces.{three}
use Rattle.captures.proofs.line.push_part.Goals as goal

pub returns-clause-written : goal.returns-clause-written
returns-clause-written c =
    let Offset : ℕ → Type 0 = λ n. c.push_number.new.out.items ≡ c.push_pair.new.line.items ++ (codes " off=" ++ decimal n) in
    let Total : ℕ → Type 0 = λ n. OnOk c.push_number-2.result (c.push_number-2.new.out.items ≡ c.push_number.new.out.items ++ (codes " total=" ++ decimal n)) in
    three c.push_number-2.result c.args.line.now.items c.push_pair.new.line.items c.push_number.new.out.items
    c.push_number-2.new.out.items
    (codes " id=" ++ pair_word c.args.part.id) (codes " off=" ++ decimal c.args.part.offset)
    (codes " total=" ++ decimal c.args.part.total)
    c.in_ok-push_pair.ensures.written (subst Offset c.from.ensures c.in_ok-push_number.ensures.written)
    (subst Total c.from-2.ensures c.push_number-2.ensures.written)
