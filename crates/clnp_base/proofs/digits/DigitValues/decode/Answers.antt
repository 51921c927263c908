use Rattle.std.proofs.Common.{arith, get_or}
use Rattle.clnp_base.proofs.digits.DigitValues.decode.Goals as goal

pub read-requires-clause-told : goal.read-requires-clause-told
read-requires-clause-told c = λ i below. c.self.invariant (get_or c.args.digits.now i 0) (omega (arith, c.type_inv.digits i))
