-- One event after another.
use Rattle.std.proofs.Common.{◌≡◌, ◌≤◌, ◌<◌, ◌+◌, ◌∙◌, ℕ, List, ap, refl, sym, subst, drop, length, get_or, arith}
use Rattle.std.proofs.lemmas.Result.{err_from_is_err_and}
use Rattle.clnp_machine.specs.ClnpPlan.Configuration.{SystemConfiguration}
use Rattle.clnp_machine.specs.System.{Input}
use Rattle.clnp_systems.specs.Stands as clnp_systems
use Rattle.clnp_plan.specs.ScenarioPlan.Plan.{ticks_of}
use Rattle.clnp_plan.specs.declared.scenario_plan.event.Event.{Event}
use Rattle.clnp_machine.specs.LiveModel.Node.{Node, Outcome, and_then, come_all}
use Rattle.clnp_machine.specs.LiveModel.Turn.{Due, asked_by}
use Rattle.clnp_program.specs.LiveNode.Agenda.{asks_by, dues_of}
use Rattle.clnp_program.specs.declared.live_node.agenda.Agenda.{Agenda}
use Rattle.clnp_program.proofs.LiveNode.Breaking.{breaks_as, breaks_first, breaks_next, idle_come_all}
use Rattle.clnp_program.proofs.LiveNode.Dues.{asks_next, asks_none, left_all, left_next, no_dues}
use Rattle.clnp_program.proofs.LiveNode.Playing.{plays_to_end, plays_to_next, plays_to_start}
use Rattle.clnp_program.proofs.LiveNode.Inputs.{come_next}
use Rattle.clnp_program.proofs.live_node.node.LiveNode.do_due.Goals as goal

pub loop-place-init : goal.loop-place-init
loop-place-init g c =
    let role = (clnp_systems.configuration_of c.args.self.now.system).role in
    let dues = dues_of c.args.agenda.now c.args.scenario.now.events in
    record {
      next = refl;
      behind = refl;
      moment = refl;
      config = refl;
      ports = refl;
      later = omega arith;
      plays = λ node h.
          plays_to_start (λ (other : Node) (outcomes : List Outcome). come_all other (asks_by c.args.now role dues) outcomes) node c.args.self.now
          (g.B.Ports.ports c.args.board.now) (g.K.Sink.written c.args.sink.now) h;
    }

pub loop-place-preserved : goal.loop-place-preserved
loop-place-preserved g c =
    let i = c.loop-place.invariant in
    let events : List Event = c.args.scenario.now.events in
    let now = c.args.now in
    let role = (clnp_systems.configuration_of c.args.self.now.system).role in
    let asked = (clnp_systems.configuration_of c.loop-place.self.system).role in
    let agenda : Agenda = c.loop-place.agenda in
    let next : Agenda = c.behind.result in
    let event : Event = c.index-events-place.result in
    let due : agenda.moment ≤ now = omega (arith, c.if-now-agenda.false) in
    let within : agenda.next < length events = omega (arith, i.next, c.loop-place-test.true, ap (λ (es : List Event). length es) c.events-events.ensures) in
    let is : event ≡ get_or events agenda.next event =
    subst (λ (n : ℕ). event ≡ get_or events n event) (sym i.next)
    (subst (λ (es : List Event). event ≡ get_or es c.loop-place.place event) c.events-events.ensures c.index-events-place.is) in
    record {
      next = ap (λ (a : Agenda). a.next) c.behind.ensures ∙ ap (λ (n : ℕ). n + 1) i.next;
      behind = left_next now agenda next events event due is within c.behind.ensures ∙ i.behind;
      moment = c.in_ok-do_event.ensures.moment ∙ i.moment;
      config = c.in_ok-do_event.ensures.config ∙ i.config;
      ports = c.in_ok-do_event.ensures.ports ∙ i.ports;
      later = omega (arith, c.in_ok-do_event.ensures.later, i.later);
      plays = λ node h.
          plays_to_next _ (λ (other : Node) (outcomes : List Outcome). come_all other (asks_by now role (dues_of agenda events)) outcomes)
          (λ (other : Node) (outcomes : List Outcome). come_all other (asks_by now role (dues_of next events)) outcomes)
          (λ (other : Node) (outcomes : List Outcome). come_all other (asked_by asked event) outcomes) node _ _ _ _ _ _ _ _
          (λ (other : Node) (outcomes : List Outcome).
          come_next (asks_by now role (dues_of agenda events)) (asked_by asked event) (asks_by now role (dues_of next events)) other outcomes
          (asks_next now agenda next events event due is within c.behind.ensures role asked (ap (λ (config : SystemConfiguration). config.role) i.config)))
          (i.plays node h) c.in_ok-do_event.ensures.plays;
    }

pub returns-clause-plays : goal.returns-clause-plays
returns-clause-plays g c = λ node h.
    let i = c.loop-place.invariant in
    let events : List Event = c.args.scenario.now.events in
    let role = (clnp_systems.configuration_of c.args.self.now.system).role in
    plays_to_end _ _ node _ _ _ _ _
    (λ (other : Node) (outcomes : List Outcome). ap (λ (dues : List Due). come_all other (asks_by c.args.now role dues) outcomes)
    (no_dues c.loop-place.agenda events (omega (arith, i.next, c.loop-place-test.false, ap (λ (es : List Event). length es) c.events-events.ensures))))
    (i.plays node h)

pub returns-then-now-agenda-clause-plays : goal.returns-then-now-agenda-clause-plays
returns-then-now-agenda-clause-plays g c = λ node h.
    let events : List Event = c.args.scenario.now.events in
    let role = (clnp_systems.configuration_of c.args.self.now.system).role in
    plays_to_end _ _ node _ _ _ _ _
    (λ (other : Node) (outcomes : List Outcome). ap (λ (inputs : List Input). come_all other inputs outcomes)
    (asks_none c.args.now c.loop-place.agenda.moment role (drop c.loop-place.agenda.next events) (omega (arith, c.if-now-agenda.true))))
    (c.loop-place.invariant.plays node h)

pub returns-then-now-agenda-clause-behind : goal.returns-then-now-agenda-clause-behind
returns-then-now-agenda-clause-behind g c =
    sym (left_all c.args.now c.loop-place.agenda.moment (drop c.loop-place.agenda.next c.args.scenario.now.events) (omega (arith, c.if-now-agenda.true)))
    ∙ c.loop-place.invariant.behind

pub returns-in_err-do_event-clause-breaks : goal.returns-in_err-do_event-clause-breaks
returns-in_err-do_event-clause-breaks g c =
    let p = err_from_is_err_and c.from_residual.result c.from_residual.ensures.1 in
    rw (p.1, p.2) (λ node h.
    let i = c.loop-place.invariant in
    let events : List Event = c.args.scenario.now.events in
    let now = c.args.now in
    let role = (clnp_systems.configuration_of c.args.self.now.system).role in
    let asked = (clnp_systems.configuration_of c.loop-place.self.system).role in
    let agenda : Agenda = c.loop-place.agenda in
    let event : Event = c.index-events-place.result in
    let next : Agenda = record { next = agenda.next + 1; moment = agenda.moment + ticks_of event } in
    let due : agenda.moment ≤ now = omega (arith, c.if-now-agenda.false) in
    let within : agenda.next < length events = omega (arith, i.next, c.loop-place-test.true, ap (λ (es : List Event). length es) c.events-events.ensures) in
    let is : event ≡ get_or events agenda.next event =
    subst (λ (n : ℕ). event ≡ get_or events n event) (sym i.next)
    (subst (λ (es : List Event). event ≡ get_or es c.loop-place.place event) c.events-events.ensures c.index-events-place.is) in
    let rest = asks_by now role (dues_of next events) in
    breaks_next _ _ _ node _ _ _ _ _ _ _ (i.plays node h)
    (λ other k.
    breaks_as _ (λ (outcomes : List Outcome). and_then (come_all other (asked_by asked event) outcomes) (λ then left. come_all then rest left))
    (come_all other (asks_by now role (dues_of agenda events))) other other _ _ _ _
    (λ outcomes. come_next (asks_by now role (dues_of agenda events)) (asked_by asked event) rest other outcomes
    (asks_next now agenda next events event due is within refl role asked (ap (λ (config : SystemConfiguration). config.role) i.config))) refl
    (breaks_first _ (come_all other (asked_by asked event)) (λ (then : Node) (left : List Outcome). come_all then rest left) other _ _ _ _ (idle_come_all rest)
    (c.in_err-do_event.ensures.breaks other k))))
