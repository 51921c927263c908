use Rattle.std.proofs.Common.{◌≡◌, ◌≤◌, length}
use Rattle.clnp_systems.specs.Stands as clnp_systems
use Rattle.clnp_machine.specs.LiveModel.Node.{Node, come_all}
use Rattle.clnp_machine.specs.LiveModel.Turn.{due_behind}
use Rattle.clnp_program.specs.LiveNode.Agenda.{asks_by, dues_of}
use Rattle.clnp_program.specs.LiveNode.Plays.{PlaysTo, Stands}
use Rattle.clnp_program.proofs.live_node.node.LiveNode.do_due.Given as goal

abbrev pub invariant-loop-place : goal.invariant-loop-place
invariant-loop-place g l = record {
  next : l.agenda.next ≡ l.place;
  behind : due_behind l.now (dues_of l.agenda l.scenario.events) ≡ due_behind l.now (dues_of l.fn.agenda l.scenario.events);
  moment : (clnp_systems.entity_of l.self.system).moment ≡ (clnp_systems.entity_of l.fn.self.system).moment;
  config : clnp_systems.configuration_of l.self.system ≡ clnp_systems.configuration_of l.fn.self.system;
  ports : length (g.B.Ports.ports l.board) ≡ length (g.B.Ports.ports l.fn.board);
  later : g.K.Sink.faults l.fn.sink ≤ g.K.Sink.faults l.sink;
  plays : (model : Node) → Stands l.fn.self (g.B.Ports.ports l.fn.board) model
      → PlaysTo (come_all model (asks_by l.now (clnp_systems.configuration_of l.fn.self.system).role (dues_of l.fn.agenda l.scenario.events)))
      (λ node outcomes. come_all node (asks_by l.now (clnp_systems.configuration_of l.fn.self.system).role (dues_of l.agenda l.scenario.events)) outcomes)
      model l.self (g.B.Ports.ports l.fn.board) (g.B.Ports.ports l.board) (g.K.Sink.written l.fn.sink) (g.K.Sink.written l.sink);
}
