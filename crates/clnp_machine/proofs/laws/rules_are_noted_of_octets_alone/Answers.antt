use Rattle.clnp_machine.proofs.Noted.{step_ruleless}
use Rattle.clnp_machine.proofs.laws.rules_are_noted_of_octets_alone.Goals as goal

pub returns : goal.returns
returns c = step_ruleless
