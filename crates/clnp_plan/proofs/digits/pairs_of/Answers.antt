use Rattle.clnp_plan.proofs.DigitSteps.{pairs_are}
use Rattle.clnp_plan.proofs.digits.pairs_of.Goals as goal

pub returns : goal.returns
returns c = rw (c.high_digits-high.ensures, c.low_digits-low.ensures) (pairs_are c.args.digits c.args.octets c.fits-octets.0)
