-- The moment comes, and then what the events ask.
use Rattle.std.proofs.Common.{◌∙◌, List, [], subst}
use Rattle.std.proofs.lemmas.Result.{IfErr-weaker, err_from_is_err_and, on_ok_weaker}
use Rattle.clnp_machine.specs.ClnpPlan.Configuration.{SystemConfiguration}
use Rattle.clnp_machine.specs.Content.{Unlabelled}
use Rattle.clnp_machine.specs.System.{Input, MomentComes}
use Rattle.clnp_systems.specs.Stands as clnp_systems
use Rattle.clnp_machine.specs.LiveModel.Node.{Node, Outcome, come_all, comes}
use Rattle.clnp_program.specs.LiveNode.Agenda.{asks_by, dues_of}
use Rattle.clnp_program.specs.LiveNode.Plays.{Breaks, Plays}
use Rattle.clnp_program.proofs.LiveNode.Breaking.{breaks_first, breaks_then, idle_come_all}
use Rattle.clnp_program.proofs.LiveNode.Playing.{plays_then}
use Rattle.std.proofs.Common.{◌≡◌, false, inl}
use Rattle.std.specs.Prelude.{◌⊎◌}
use Rattle.clnp_program.specs.LiveNode.Ran.{has_any_attached}
use Rattle.clnp_program.specs.declared.live_node.node.Stop.TheVariants as broken
use Rattle.clnp_program.proofs.LiveNode.Breaking.{alone_excused, breaks_for}
use Rattle.clnp_program.proofs.live_node.node.LiveNode.come_due.Goals as goal

pub returns-clause-plays : goal.returns-clause-plays
returns-clause-plays g c =
    let asks : SystemConfiguration → List Input = λ config. asks_by c.args.now config.role (dues_of c.args.agenda.now c.args.scenario.now.events) in
    on_ok_weaker c.do_due.result (λ k node h.
    plays_then (comes node (MomentComes c.args.now))
    (λ (other : Node) (outcomes : List Outcome). come_all other (asks (clnp_systems.configuration_of c.args.self.now.system)) outcomes)
    node _ _ _ _ _ _ _ _ (c.in_ok-comes.ensures.plays node (Unlabelled []) h tt)
    (λ other m. subst (λ (config : SystemConfiguration). Plays (come_all other (asks config)) other c.do_due.new.self (g.B.Ports.ports c.comes.new.board) (g.B.Ports.ports c.do_due.new.board)
    (g.K.Sink.written c.comes.new.sink) (g.K.Sink.written c.do_due.new.sink)) (c.in_ok-comes.ensures.config (Unlabelled []) tt) (k other m)))
    c.do_due.ensures.plays

pub returns-clause-breaks : goal.returns-clause-breaks
returns-clause-breaks g c =
    let asks : SystemConfiguration → List Input = λ config. asks_by c.args.now config.role (dues_of c.args.agenda.now c.args.scenario.now.events) in
    IfErr-weaker c.do_due.result _ _ (λ stop k node h.
    breaks_then _ (comes node (MomentComes c.args.now))
    (λ (other : Node) (outcomes : List Outcome). come_all other (asks (clnp_systems.configuration_of c.args.self.now.system)) outcomes)
    node _ _ _ _ _ _ _ (c.in_ok-comes.ensures.plays node (Unlabelled []) h tt)
    (λ other m. subst (λ (config : SystemConfiguration). Breaks ((stop ≡ broken.WriteFault) ⊎ (has_any_attached (g.B.Ports.ports c.args.board.now) ≡ false)) (come_all other (asks config)) other (g.B.Ports.ports c.comes.new.board) (g.B.Ports.ports c.do_due.new.board)
    (g.K.Sink.written c.comes.new.sink) (g.K.Sink.written c.do_due.new.sink)) (c.in_ok-comes.ensures.config (Unlabelled []) tt) (breaks_for _ _ _ other _ _ _ _ inl (k other m))))
    c.do_due.ensures.breaks

pub returns-in_err-comes-clause-breaks : goal.returns-in_err-comes-clause-breaks
returns-in_err-comes-clause-breaks g c =
    let p = err_from_is_err_and c.from_residual.result c.from_residual.ensures.1 in
    rw (p.1, p.2) (λ node h.
    let asks = asks_by c.args.now (clnp_systems.configuration_of c.args.self.now.system).role (dues_of c.args.agenda.now c.args.scenario.now.events) in
    breaks_first _ (comes node (MomentComes c.args.now)) (λ (other : Node) (outcomes : List Outcome). come_all other asks outcomes)
    node _ _ _ _ (idle_come_all asks) (breaks_for _ _ _ node _ _ _ _ (alone_excused c.args.self.now (g.B.Ports.ports c.args.board.now) node h _)
    (c.in_err-comes.ensures.breaks node (Unlabelled []) h tt)))

pub returns-clause-moment : goal.returns-clause-moment
returns-clause-moment g c = on_ok_weaker c.do_due.result (λ k. k ∙ c.in_ok-comes.ensures.moment (Unlabelled []) tt) c.do_due.ensures.moment
