-- What is due, and then the looks.
use Rattle.std.proofs.Common.{List, subst}
use Rattle.std.proofs.lemmas.Result.{IfErr-weaker, err_from_is_err_and, on_ok_weaker}
use Rattle.clnp_machine.specs.ClnpPlan.Configuration.{SystemConfiguration}
use Rattle.clnp_systems.specs.Stands as clnp_systems
use Rattle.clnp_machine.specs.System.{Input}
use Rattle.clnp_machine.specs.LiveModel.Node.{Node, Outcome, come_all, looks_at_each, ports_of}
use Rattle.clnp_machine.specs.LiveModel.Turn.{comes_at}
use Rattle.clnp_program.specs.LiveNode.Agenda.{dues_of}
use Rattle.clnp_program.specs.LiveNode.Plays.{Plays}
use Rattle.clnp_program.proofs.LiveNode.Breaking.{breaks_first, breaks_then, idle_looks}
use Rattle.clnp_program.proofs.LiveNode.Playing.{plays_then}
use Rattle.clnp_program.proofs.LiveNode.Inputs.{configured}
use Rattle.std.proofs.Common.{ap, inl, refl, sym}
use Rattle.clnp_program.proofs.LiveNode.Breaking.{breaks_as, breaks_for}
use Rattle.clnp_program.proofs.live_node.node.LiveNode.turn.Goals as goal

pub returns-clause-plays : goal.returns-clause-plays
returns-clause-plays g c =
    let come : SystemConfiguration → List Input = λ config. comes_at c.args.now config.role (dues_of c.args.agenda.now c.args.scenario.now.events) in
    on_ok_weaker c.look_at_each.result (λ k node h.
    plays_then (come_all node (come node.system.configuration))
    (λ (other : Node) (outcomes : List Outcome). looks_at_each other (ports_of other.attached) outcomes)
    node _ _ _ _ _ _ _ _
    (subst (λ (config : SystemConfiguration). Plays (come_all node (come config)) node c.come_due.new.self (g.B.Ports.ports c.args.board.now) (g.B.Ports.ports c.come_due.new.board)
    (g.K.Sink.written c.args.sink.now) (g.K.Sink.written c.come_due.new.sink)) (configured c.args.self.now (g.B.Ports.ports c.args.board.now) node h)
    (c.in_ok-come_due.ensures.plays node h)) k)
    c.look_at_each.ensures.plays

pub returns-clause-breaks : goal.returns-clause-breaks
returns-clause-breaks g c =
    let come : SystemConfiguration → List Input = λ config. comes_at c.args.now config.role (dues_of c.args.agenda.now c.args.scenario.now.events) in
    IfErr-weaker c.look_at_each.result _ _ (λ stop k node h.
    breaks_then _ (come_all node (come node.system.configuration))
    (λ (other : Node) (outcomes : List Outcome). looks_at_each other (ports_of other.attached) outcomes)
    node _ _ _ _ _ _ _
    (subst (λ (config : SystemConfiguration). Plays (come_all node (come config)) node c.come_due.new.self (g.B.Ports.ports c.args.board.now) (g.B.Ports.ports c.come_due.new.board)
    (g.K.Sink.written c.args.sink.now) (g.K.Sink.written c.come_due.new.sink)) (configured c.args.self.now (g.B.Ports.ports c.args.board.now) node h)
    (c.in_ok-come_due.ensures.plays node h)) (λ other m. breaks_for _ _ _ other _ _ _ _ inl (k other m)))
    c.look_at_each.ensures.breaks

pub returns-in_err-come_due-clause-breaks : goal.returns-in_err-come_due-clause-breaks
returns-in_err-come_due-clause-breaks g c =
    let p = err_from_is_err_and c.from_residual.result c.from_residual.ensures.1 in
    rw (p.1, p.2) (λ node h.
    let come : SystemConfiguration → List Input = λ config. comes_at c.args.now config.role (dues_of c.args.agenda.now c.args.scenario.now.events) in
    breaks_first _ (come_all node (come node.system.configuration))
    (λ (other : Node) (outcomes : List Outcome). looks_at_each other (ports_of other.attached) outcomes)
    node _ _ _ _ (λ other. idle_looks (ports_of other.attached) other)
    (breaks_as _ (come_all node (come (clnp_systems.configuration_of c.args.self.now.system))) (come_all node (come node.system.configuration)) node node _ _ _ _
    (λ outcomes. ap (λ (config : SystemConfiguration). come_all node (come config) outcomes)
    (sym (configured c.args.self.now (g.B.Ports.ports c.args.board.now) node h))) refl
    (c.in_err-come_due.ensures.breaks node h)))
