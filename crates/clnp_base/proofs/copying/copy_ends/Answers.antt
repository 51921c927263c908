-- What the end is written over, the front had, too.
use Rattle.clnp_base.proofs.Ends.{both_ends}
use Rattle.clnp_base.proofs.copying.copy_ends.Goals as goal

pub returns : goal.returns
returns g c = both_ends g.row.PART c.args.place.now c.args.octets.now c.requires.size c.requires.least c.requires.most
