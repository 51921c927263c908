use Rattle.clnp_machine.proofs.Ending.{none_is_due, stay_unless_ended, were_there}
use Rattle.clnp_machine.proofs.laws.each_ended_buffer_is_taken_out.Goals as goal

pub returns-clause-none_due : goal.returns-clause-none_due
returns-clause-none_due c = none_is_due

pub returns-clause-there : goal.returns-clause-there
returns-clause-there c = were_there

pub returns-clause-stays : goal.returns-clause-stays
returns-clause-stays c = stay_unless_ended
