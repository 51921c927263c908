use Rattle.clnp_machine.proofs.Unbroken.{esis_unbroken}
use Rattle.clnp_machine.proofs.laws.esis_pdus_break_no_rule.Goals as goal

pub returns : goal.returns
returns c = esis_unbroken
