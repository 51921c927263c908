use Rattle.clnp_machine.proofs.Deeds.{given_up_after}
use Rattle.clnp_machine.proofs.laws.ended_buffers_are_taken_out.Goals as goal

pub returns : goal.returns
returns c = given_up_after
