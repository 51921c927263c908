use Rattle.clnp_machine.proofs.Saying.{hello_said, next_later, next_stays, no_hello}
use Rattle.clnp_machine.proofs.laws.a_hello_is_said_where_one_is_due.Goals as goal

pub returns-clause-said : goal.returns-clause-said
returns-clause-said c = hello_said

pub returns-clause-next : goal.returns-clause-next
returns-clause-next c = next_later

pub returns-clause-silent : goal.returns-clause-silent
returns-clause-silent c = no_hello

pub returns-clause-stays : goal.returns-clause-stays
returns-clause-stays c = next_stays
