use Rattle.clnp_machine.proofs.ClnpNetwork.Texts.{trace_is, without_is}
use Rattle.clnp_machine.proofs.clnp_network.laws.the_trace_without_its_own_lines_is_the_journal.Goals as goal

pub returns-clause-trace : goal.returns-clause-trace
returns-clause-trace c = trace_is

pub returns-clause-journal : goal.returns-clause-journal
returns-clause-journal c = without_is
