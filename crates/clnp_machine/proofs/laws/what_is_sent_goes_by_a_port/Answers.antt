use Rattle.clnp_machine.proofs.ByPorts.{step_by}
use Rattle.clnp_machine.proofs.laws.what_is_sent_goes_by_a_port.Goals as goal

pub returns : goal.returns
returns c = step_by
