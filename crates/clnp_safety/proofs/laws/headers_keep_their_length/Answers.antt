use Rattle.clnp_safety.proofs.Carried.{headers_are_kept}
use Rattle.clnp_safety.proofs.laws.headers_keep_their_length.Goals as goal

pub returns : goal.returns
returns c = headers_are_kept c.laws_of_steps.ensures
