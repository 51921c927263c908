use Rattle.clnp_program.proofs.FairCommands.Accepted.{accepted}
use Rattle.clnp_program.proofs.fair_commands.laws.an_accepted_text_is_in_range.Goals as goal

pub returns : goal.returns
returns c = λ text capture said. accepted text capture said
