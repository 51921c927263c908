use Rattle.clnp_machine.proofs.Hellos.{only_comes, only_forgets, only_responds, only_says_hello, only_tells}
use Rattle.clnp_machine.proofs.laws.hellos_leave_the_rest.Goals as goal

pub returns-clause-comes : goal.returns-clause-comes
returns-clause-comes c = only_comes

pub returns-clause-tells : goal.returns-clause-tells
returns-clause-tells c = only_tells

pub returns-clause-responds : goal.returns-clause-responds
returns-clause-responds c = only_responds

pub returns-clause-forgets : goal.returns-clause-forgets
returns-clause-forgets c s before = only_forgets before s

pub returns-clause-says_hello : goal.returns-clause-says_hello
returns-clause-says_hello c = only_says_hello
