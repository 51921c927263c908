use Rattle.clnp_plan.proofs.DigitSteps.{high_are, high_ok}
use Rattle.clnp_plan.proofs.digits.high_digits.Goals as goal

pub swizzle : goal.swizzle
swizzle c = high_ok c.args.octets c.fits-octets

pub returns : goal.returns
returns c = high_are c.args.digits c.args.octets c.fits-octets
