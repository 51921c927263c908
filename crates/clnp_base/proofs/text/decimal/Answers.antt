use Rattle.std.proofs.Common.{◌≡◌, [], sym, ◌∙◌, arith, drop}
use Rattle.std.proofs.Math.ListN.{drop_of_length-le}
use Rattle.std.proofs.lemmas.Bool.Decides.{nat_tests}
use Rattle.clnp_base.proofs.Decimals.{decimal_of-stopped, decimal_of-read}
use Rattle.clnp_base.proofs.text.decimal.Goals as goal

pub returns-in_err-value : goal.returns-in_err-value
returns-in_err-value c =
    rw c.from_residual.ensures
    (decimal_of-stopped c.args.word.now c.loop-octet.octet-index c.loop-octet.value c.loop-octet-test.true c.loop-octet.invariant.1 (sym c.with_digit.ensures ∙ c.in_err-value.was))

pub returns : goal.returns
returns c =
    let none : drop c.loop-octet.octet-index c.args.word.now ≡ [] = drop_of_length-le c.args.word.now c.loop-octet-test.false in
    decimal_of-read c.args.word.now c.loop-octet.value (grind (arith, nat_tests)) c.loop-octet.invariant.0
    (rw none at c.loop-octet.invariant.1)
