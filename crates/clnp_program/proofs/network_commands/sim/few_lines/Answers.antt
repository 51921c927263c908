use Rattle.clnp_program.proofs.network_commands.sim.few_lines.Goals as goal
use Rattle.clnp_machine.proofs.ClnpBase.Reading.{lines_of-few}

pub returns : goal.returns
returns c = lines_of-few
