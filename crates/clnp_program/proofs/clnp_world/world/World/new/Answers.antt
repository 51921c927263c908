-- At the start the network stands for that of the declarations.
use Rattle.clnp_machine.specs.ClnpNetwork.LabelledNetwork.{first_world}
use Rattle.clnp_program.proofs.ClnpWorld.WorldSteps.{stands_for}
use Rattle.clnp_program.proofs.clnp_world.world.World.new.Goals as goal

pub invariant_of-result : goal.invariant_of-result
invariant_of-result c = λ _.
    let model = first_world c.args.scenario.now in
    (model, stands_for c.in_ok-network.network model c.in_ok-network.ensures)
