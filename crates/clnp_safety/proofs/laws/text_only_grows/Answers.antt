use Rattle.clnp_safety.proofs.Stops.{text_grows}
use Rattle.clnp_safety.proofs.laws.text_only_grows.Goals as goal

pub returns : goal.returns
returns c = text_grows
