use Rattle.clnp_program.proofs.FairCommands.Apart.{apart}
use Rattle.clnp_program.proofs.fair_commands.laws.a_share_is_apart.Goals as goal

pub returns : goal.returns
returns c = λ text other capture alone place said said_alone e. apart capture alone place e
