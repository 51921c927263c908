use Rattle.clnp_machine.proofs.ClnpNetwork.Texts.{journal_is, text_is}
use Rattle.clnp_machine.proofs.clnp_network.laws.the_journal_is_the_text_of_the_run.Goals as goal

pub returns-clause-journal : goal.returns-clause-journal
returns-clause-journal c = journal_is

pub returns-clause-moves : goal.returns-clause-moves
returns-clause-moves c = text_is
