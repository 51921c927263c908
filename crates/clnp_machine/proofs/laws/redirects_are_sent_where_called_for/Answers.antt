use Rattle.clnp_machine.proofs.GoingOn.{redirects_to_better, redirects_where_called}
use Rattle.clnp_machine.proofs.laws.redirects_are_sent_where_called_for.Goals as goal

pub returns-clause-sent : goal.returns-clause-sent
returns-clause-sent c = redirects_where_called

pub returns-clause-better : goal.returns-clause-better
returns-clause-better c = redirects_to_better
