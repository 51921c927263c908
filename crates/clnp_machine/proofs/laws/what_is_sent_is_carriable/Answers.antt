use Rattle.clnp_machine.proofs.Sendable.{step_carriable, step_keeps}
use Rattle.clnp_machine.proofs.laws.what_is_sent_is_carriable.Goals as goal

pub returns-clause-sent : goal.returns-clause-sent
returns-clause-sent c = step_carriable c.laws_of_edits.ensures

pub returns-clause-kept : goal.returns-clause-kept
returns-clause-kept c = step_keeps
