use Rattle.clnp_machine.proofs.Answering.{again_unanswered, old_unanswered}
use Rattle.clnp_machine.proofs.laws.an_exchange_of_answers_ends.Goals as goal

pub returns-clause-again : goal.returns-clause-again
returns-clause-again c s port sender to_group value following = again_unanswered s (record { port = port; snpa = sender }) value

pub returns-clause-known : goal.returns-clause-known
returns-clause-known c s port sender to_group value following = old_unanswered s (record { port = port; snpa = sender }) value
