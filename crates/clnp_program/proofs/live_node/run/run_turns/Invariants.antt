use Rattle.std.proofs.Common.{◌≡◌, ◌≤◌, length}
use Rattle.clnp_systems.specs.Stands as clnp_systems
use Rattle.clnp_machine.specs.LiveModel.Node.{Node}
use Rattle.clnp_machine.specs.LiveModel.Turn.{dues_from}
use Rattle.clnp_program.specs.LiveNode.Agenda.{dues_of}
use Rattle.clnp_program.specs.LiveNode.Clocks.{clock_of}
use Rattle.clnp_program.specs.LiveNode.Plays.{Stands}
use Rattle.clnp_program.specs.LiveNode.Ran.{RanTo}
use Rattle.clnp_program.proofs.live_node.run.run_turns.Given as goal

abbrev pub invariant-loop-made : goal.invariant-loop-made
invariant-loop-made g l = record {
  moment : (clnp_systems.entity_of l.live.system).moment ≤ g.C.Clock.last l.clock;
  room : 70000 ≤ length l.room;
  ports : length (g.B.Ports.ports l.board) ≡ length (g.B.Ports.ports l.fn.board);
  faults : g.K.Sink.faults l.fn.sink ≤ g.K.Sink.faults l.sink;
  last : g.C.Clock.last l.fn.clock ≤ g.C.Clock.last l.clock;
  ran : (model : Node) → Stands l.fn.live (g.B.Ports.ports l.fn.board) model
      → RanTo (dues_from l.start l.scenario.events) (dues_of l.agenda l.scenario.events) model l.live l.made
      (clock_of (g.C.Clock.moments l.fn.clock) (g.C.Clock.last l.fn.clock)) (clock_of (g.C.Clock.moments l.clock) (g.C.Clock.last l.clock)) (g.B.Ports.ports l.fn.board) (g.B.Ports.ports l.board)
      (g.K.Sink.written l.fn.sink) (g.K.Sink.written l.sink);
}
