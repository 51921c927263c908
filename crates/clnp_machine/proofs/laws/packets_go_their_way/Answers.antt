use Rattle.clnp_machine.proofs.GoingOn.{goes_its_way}
use Rattle.clnp_machine.proofs.laws.packets_go_their_way.Goals as goal

pub returns : goal.returns
returns c = goes_its_way
