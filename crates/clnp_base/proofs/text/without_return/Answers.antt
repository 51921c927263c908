use Rattle.std.proofs.Common.{sym}
use Rattle.clnp_base.proofs.Reading.{without_return-at, without_return-other}
use Rattle.clnp_base.proofs.text.without_return.Goals as goal

pub returns-in-Some : goal.returns-in-Some
returns-in-Some c = rw c.in-Some.ensures.cases.0 (sym (without_return-at _ _ c.if-last-eq13.true))

pub returns-in_default : goal.returns-in_default
returns-in_default c = rw c.in-Some.ensures.cases.0 (sym (without_return-other _ _ c.if-last-eq13.false))
