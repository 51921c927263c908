use Rattle.clnp_safety.proofs.Traced.{makers_are_known}
use Rattle.clnp_safety.proofs.laws.copies_have_their_makers.Goals as goal

pub returns : goal.returns
returns c = makers_are_known c.laws_of_steps.ensures
