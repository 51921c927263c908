use Rattle.clnp_machine.proofs.Sent.{step_sends}
use Rattle.clnp_machine.proofs.laws.ranges_of_units_are_sent.Goals as goal

pub returns : goal.returns
returns c = step_sends c.laws_of_edits.ensures
