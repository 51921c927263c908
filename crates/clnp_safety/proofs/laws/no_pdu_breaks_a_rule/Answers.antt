use Rattle.clnp_safety.proofs.Carried.{pdus_are_unbroken}
use Rattle.clnp_safety.proofs.laws.no_pdu_breaks_a_rule.Goals as goal

pub returns : goal.returns
returns c = pdus_are_unbroken c.laws_of_steps.ensures
