use Rattle.clnp_plan.proofs.DigitSteps.{low_are, low_ok}
use Rattle.clnp_plan.proofs.digits.low_digits.Goals as goal

pub swizzle : goal.swizzle
swizzle c = low_ok c.args.octets c.fits-octets

pub returns : goal.returns
returns c = low_are c.args.digits c.args.octets c.fits-octets
