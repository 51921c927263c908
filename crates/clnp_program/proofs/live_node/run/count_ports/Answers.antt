-- There are at most eight.
use Rattle.std.proofs.Common.{arith}
use Rattle.clnp_program.proofs.LiveNode.Runs.{few_ports}
use Rattle.clnp_program.proofs.live_node.run.count_ports.Goals as goal

pub overflow_cast-result : goal.overflow_cast-result
overflow_cast-result g c =
    omega (arith, c.count.ensures, few_ports _ c.args.scenario.now.systems c.requires.one c.is_fit.ensures.systems c.requires.ports)
