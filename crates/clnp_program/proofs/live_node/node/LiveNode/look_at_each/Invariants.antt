use Rattle.std.proofs.Common.{◌≡◌, ◌≤◌, ◌-◌, length}
use Rattle.std.specs.List.{range_with_len}
use Rattle.clnp_systems.specs.Stands as clnp_systems
use Rattle.clnp_machine.specs.LiveModel.Node.{Node, looks_at_each, ports_of}
use Rattle.clnp_program.specs.LiveNode.Plays.{PlaysTo, Stands}
use Rattle.clnp_program.proofs.live_node.node.LiveNode.look_at_each.Given as goal

abbrev pub invariant-loop-port : goal.invariant-loop-port
invariant-loop-port g l = record {
  ports : length (g.B.Ports.ports l.board) ≡ length (g.B.Ports.ports l.initial.board);
  room : length l.buf ≡ length l.initial.buf;
  moment : (clnp_systems.entity_of l.self.system).moment ≡ (clnp_systems.entity_of l.initial.self.system).moment;
  config : clnp_systems.configuration_of l.self.system ≡ clnp_systems.configuration_of l.initial.self.system;
  later : g.K.Sink.faults l.initial.sink ≤ g.K.Sink.faults l.sink;
  plays : (node : Node) → Stands l.initial.self (g.B.Ports.ports l.initial.board) node
      → PlaysTo (looks_at_each node (ports_of node.attached)) (λ other outcomes. looks_at_each other (range_with_len l.port (l.ports - l.port)) outcomes) node l.self
      (g.B.Ports.ports l.initial.board) (g.B.Ports.ports l.board) (g.K.Sink.written l.initial.sink) (g.K.Sink.written l.sink);
}
