use Rattle.clnp_machine.proofs.LiveModel.Parts.{then_then}
use Rattle.clnp_machine.proofs.live_model.laws.parts_follow_one_another.Goals as goal

pub returns : goal.returns
returns c = then_then
