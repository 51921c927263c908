use Rattle.std.proofs.Common.{◌≡◌, ◌≤◌, List, drop, length}
use Rattle.clnp_machine.specs.System as machine
use Rattle.clnp_machine.specs.LiveModel.Node.{Node, puts_all_out}
use Rattle.clnp_program.specs.LiveNode.Outputs.{PutAllOut}
use Rattle.clnp_program.specs.LiveNode.Plays.{PlaysTo, Stands}
use Rattle.clnp_program.proofs.live_node.node.LiveNode.put_all_out.Given as goal

abbrev pub invariant-loop-output : goal.invariant-loop-output
invariant-loop-output g l = record {
  ports : length (g.B.Ports.ports l.board) ≡ length (g.B.Ports.ports l.initial.board);
  system : l.self.system ≡ l.initial.self.system;
  now : l.self.now ≡ l.initial.self.now;
  later : g.K.Sink.faults l.initial.sink ≤ g.K.Sink.faults l.sink;
  plays : (node : Node) (others : List machine.Output) → Stands l.initial.self (g.B.Ports.ports l.initial.board) node → PutAllOut l.outputs others
      → PlaysTo (puts_all_out node others) (λ other outcomes. puts_all_out other (drop l.output-index others) outcomes) node l.self
      (g.B.Ports.ports l.initial.board) (g.B.Ports.ports l.board) (g.K.Sink.written l.initial.sink) (g.K.Sink.written l.sink);
}
