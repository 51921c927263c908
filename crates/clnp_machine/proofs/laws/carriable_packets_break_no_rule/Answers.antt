use Rattle.clnp_machine.proofs.Unbroken.{carriable_unbroken}
use Rattle.clnp_machine.proofs.laws.carriable_packets_break_no_rule.Goals as goal

pub returns : goal.returns
returns c = carriable_unbroken
