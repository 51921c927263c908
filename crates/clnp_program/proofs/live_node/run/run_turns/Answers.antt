-- One turn after another.
use Rattle.std.proofs.Common.{◌≡◌, ◌∙◌, List, refl, ap, sym, subst, arith}
use Rattle.clnp_machine.specs.LiveModel.Turn.{Due, dues_from}
use Rattle.clnp_program.specs.LiveNode.Agenda.{dues_of}
use Rattle.clnp_program.specs.declared.live_node.agenda.Agenda.{Agenda}
use Rattle.clnp_program.specs.LiveNode.Clocks.{clock_of}
use Rattle.clnp_program.specs.LiveNode.Ran.{RanTo}
use Rattle.clnp_program.proofs.LiveNode.Courses.{ran_more, ran_nothing, stops_behind}
use Rattle.clnp_program.proofs.live_node.run.run_turns.Goals as goal

pub loop-made-init : goal.loop-made-init
loop-made-init g c = record {
  moment = c.requires.moment;
  room = c.requires.room;
  ports = refl;
  faults = omega arith;
  last = omega arith;
  ran = λ node h.
      let events = c.args.scenario.now.events in
      let dues = dues_from c.args.start events in
      let ports = g.B.Ports.ports c.args.board.now in
      let clock = clock_of (g.C.Clock.moments c.args.clock.now) (g.C.Clock.last c.args.clock.now) in
      let written = g.K.Sink.written c.args.sink.now in
      subst (λ (later : List Due). RanTo dues later node c.args.live.now 0 clock clock ports ports written written)
      (sym (ap (λ (agenda : Agenda). dues_of agenda events) c.from-agenda.ensures))
      (ran_nothing dues node c.args.live.now clock ports written h);
}

pub loop-made-preserved : goal.loop-made-preserved
loop-made-preserved g c =
    let i = c.loop-made.invariant in
    record {
      moment = c.in-Ok.ensures.moment;
      room = omega (arith, i.room, c.in-Ok.ensures.room);
      ports = c.in-Ok.ensures.ports ∙ i.ports;
      faults = omega (arith, i.faults, c.in-Ok.ensures.faults);
      last = omega (arith, i.last, c.in-Ok.ensures.last);
      ran = λ node h. ran_more _ _ node _ _ _ _ _ _ _ _ _ _ _ (i.ran node h) _ _ c.in-Ok.ensures.ran;
    }

pub returns-clause-ran : goal.returns-clause-ran
returns-clause-ran g c = λ node h.
    let all : c.loop-made.made ≡ c.args.turns = omega (arith, c.loop-made-test.false, c.loop-made.auto.made-end) in
    (dues_of c.loop-made.agenda c.args.scenario.now.events, rw (← all) (c.loop-made.invariant.ran node h))

pub returns-in-Err-clause-stops : goal.returns-in-Err-clause-stops
returns-in-Err-clause-stops g c = λ node h.
    stops_behind _ _ node _ _ _ _ _ _ _ _ _ _ _ (c.loop-made.invariant.ran node h) c.in-Err.stop c.args.turns (omega (arith, c.loop-made-test.true))
    c.in-Err.ensures.stops
