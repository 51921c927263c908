use Rattle.std.proofs.Common.{arith}
use Rattle.std.proofs.lemmas.Fmt.{length-decimal-le}
use Rattle.clnp_plan.proofs.line.room_for_number.Goals as goal

pub returns-clause-enough : goal.returns-clause-enough
returns-clause-enough c = length-decimal-le 20 c.args.number (omega arith) (omega (arith, c.ranges.number.fits)) c.ranges.number.fits
