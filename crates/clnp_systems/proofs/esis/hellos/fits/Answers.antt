use Rattle.clnp_systems.proofs.Lengths.{few_fit}
use Rattle.clnp_systems.proofs.esis.hellos.fits.Goals as goal

pub returns : goal.returns
returns c = few_fit c.args.addresses.now c.loop-address.address-index c.loop-address.invariant c.loop-address-test.false c.requires
