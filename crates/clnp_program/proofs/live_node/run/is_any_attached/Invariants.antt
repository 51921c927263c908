use Rattle.std.proofs.Common.{◌≡◌, drop}
use Rattle.clnp_program.specs.LiveNode.Ran.{has_any_attached}
use Rattle.clnp_program.proofs.live_node.run.is_any_attached.Given as goal

abbrev pub invariant-loop-port : goal.invariant-loop-port
invariant-loop-port g l = record {
  rest : has_any_attached (g.B.Ports.ports l.board) ≡ has_any_attached (drop l.port (g.B.Ports.ports l.board));
}
