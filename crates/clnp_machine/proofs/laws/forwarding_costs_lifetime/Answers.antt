use Rattle.clnp_machine.proofs.Sent.{passing_sends}
use Rattle.clnp_machine.proofs.laws.forwarding_costs_lifetime.Goals as goal

pub returns : goal.returns
returns c = λ s came p following. passing_sends c.laws_of_edits.ensures s p came following
