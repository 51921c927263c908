use Rattle.std.proofs.Common.{subst}
use Rattle.clnp_machine.specs.ScenarioPlan.Plan.{Plan}
use Rattle.clnp_program.specs.NetworkCommands.Counting.{SumOf}
use Rattle.clnp_program.proofs.network_commands.storm.run_seed.Goals as goal

pub returns-in-Ok-clause-sums : goal.returns-in-Ok-clause-sums
returns-in-Ok-clause-sums g c =
    subst (λ (plan : Plan). SumOf c.args.seed plan c.sum_up.result) c.in-Ok.ensures c.sum_up.ensures.sums
