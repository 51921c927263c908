use Rattle.clnp_systems.proofs.Rest.{rested}
use Rattle.clnp_systems.proofs.laws.a_drawn_identifier_has_rested.Goals as goal

pub returns : goal.returns
returns c = rested
