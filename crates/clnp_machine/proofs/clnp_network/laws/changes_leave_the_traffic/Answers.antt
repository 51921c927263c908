use Rattle.clnp_machine.proofs.ClnpNetwork.Changing.{changes_keep}
use Rattle.clnp_machine.proofs.clnp_network.laws.changes_leave_the_traffic.Goals as goal

pub returns : goal.returns
returns c subnets limits w = changes_keep w subnets limits
