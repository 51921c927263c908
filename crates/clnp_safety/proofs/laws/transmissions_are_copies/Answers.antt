use Rattle.clnp_safety.proofs.Numbered.{lines_tell}
use Rattle.clnp_safety.proofs.laws.transmissions_are_copies.Goals as goal

pub returns : goal.returns
returns c = lines_tell c.laws_of_steps.ensures c.what_is_sent_goes_by_a_port.ensures
