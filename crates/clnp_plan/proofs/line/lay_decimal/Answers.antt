-- A number below ten has one digit.
use Rattle.std.proofs.Common.{List, ℕ, ap, arith, length, subst, sym}
use Rattle.std.proofs.lemmas.Fmt.{decimal_digit}
use Rattle.clnp_plan.specs.Laying.{Lays}
use Rattle.clnp_plan.proofs.line.lay_decimal.Goals as goal

pub lay_octet-requires : goal.lay_octet-requires
lay_octet-requires c = omega (arith, c.requires, ap length (decimal_digit c.args.number c.if-number-lt10.true))

pub returns-then-number-lt10 : goal.returns-then-number-lt10
returns-then-number-lt10 c =
    subst (λ (digits : List ℕ). Lays c.args.at digits c.args.place.now c.lay_octet.result c.lay_octet.new.place)
    (sym (decimal_digit c.args.number c.if-number-lt10.true)) c.lay_octet.ensures
