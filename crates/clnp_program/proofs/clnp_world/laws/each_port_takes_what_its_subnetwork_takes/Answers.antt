use Rattle.clnp_program.proofs.ClnpWorld.ResizeSteps.{fits_each_port}
use Rattle.clnp_program.proofs.clnp_world.laws.each_port_takes_what_its_subnetwork_takes.Goals as goal

pub returns : goal.returns
returns c = λ subnets w subnet mtu. fits_each_port subnet mtu subnets w
