use Rattle.clnp_machine.proofs.Hops.{all_where_whole}
use Rattle.clnp_machine.proofs.laws.a_packet_may_be_all_of_its_unit.Goals as goal

pub returns : goal.returns
returns c = all_where_whole
