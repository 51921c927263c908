-- A turn, and whether a link is attached behind it.
use Rattle.std.proofs.Common.{◌∙◌, subst, sym}
use Rattle.clnp_program.specs.LiveNode.Agenda.{dues_of}
use Rattle.clnp_program.specs.declared.live_node.run.RunStop.{RunStop}
use Rattle.clnp_program.specs.LiveNode.Clocks.{clock_of}
use Rattle.clnp_program.specs.LiveNode.Ran.{StopsIn}
use Rattle.clnp_program.proofs.LiveNode.Courses.{broken_one, gone_one, ran_one}
use Rattle.clnp_program.proofs.LiveNode.Runs.{read_once}
use Rattle.clnp_program.proofs.live_node.run.run_turn.Goals as goal

pub returns-then-not-is_any_attached-clause-stops : goal.returns-then-not-is_any_attached-clause-stops
returns-then-not-is_any_attached-clause-stops g c = λ node h.
    gone_one (dues_of c.args.agenda.now c.args.scenario.now.events) node _ _ c.now-now.result _ _ (read_once c.now-now.ensures.given c.now-now.ensures.later c.now-now.ensures.early c.now-now.ensures.kept) _ _ _
    (c.in-Ok.ensures.plays node h) c.args.ports (c.requires.counted ∙ sym c.in-Ok.ensures.ports)
    (sym c.is_any_attached.ensures ∙ c.if-not-is_any_attached.true)

pub returns-else-not-is_any_attached-clause-ran : goal.returns-else-not-is_any_attached-clause-ran
returns-else-not-is_any_attached-clause-ran g c = λ node h.
    ran_one (dues_of c.args.agenda.now c.args.scenario.now.events) node _ _ c.now-now.result _ _ (read_once c.now-now.ensures.given c.now-now.ensures.later c.now-now.ensures.early c.now-now.ensures.kept) _ _ _
    (c.in-Ok.ensures.plays node h) _ c.in-Ok.ensures.behind (sym c.is_any_attached.ensures ∙ c.if-not-is_any_attached.false)

pub returns-in-Err-clause-stops : goal.returns-in-Err-clause-stops
returns-in-Err-clause-stops g c = λ node h.
    subst (λ (stop : RunStop). StopsIn stop 1 (dues_of c.args.agenda.now c.args.scenario.now.events) node (clock_of (g.C.Clock.moments c.args.clock.now) (g.C.Clock.last c.args.clock.now))
    (clock_of (g.C.Clock.moments c.now-now.new.self) (g.C.Clock.last c.now-now.new.self)) (g.B.Ports.ports c.args.board.now) (g.B.Ports.ports c.turn.new.board)
    (g.K.Sink.written c.args.sink.now) (g.K.Sink.written c.turn.new.sink)) (sym c.broken_by.ensures)
    (broken_one (dues_of c.args.agenda.now c.args.scenario.now.events) node _ _ c.now-now.result _ _ (read_once c.now-now.ensures.given c.now-now.ensures.later c.now-now.ensures.early c.now-now.ensures.kept) _ _ _
    (c.in-Err.ensures.breaks node h))
