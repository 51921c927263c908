use Rattle.clnp_program.proofs.FairCommands.Apart.{texts_are_fair}
use Rattle.clnp_program.proofs.fair_commands.laws.shares_are_fair.Goals as goal

pub returns : goal.returns
returns c = λ text. texts_are_fair text
