-- A host is asked, and no router.
use Rattle.std.proofs.Common.{◌∙◌, [], ◌∷◌, ap, refl, sym}
use Rattle.std.proofs.lemmas.Result.{IfErr-weaker, on_ok_weaker}
use Rattle.clnp_machine.specs.ClnpPlan.Configuration.{SystemConfiguration}
use Rattle.clnp_machine.specs.ClnpPlan.declared.config.Role.{Role}
use Rattle.clnp_machine.specs.System.{Input, AsksToSend}
use Rattle.clnp_plan.specs.ScenarioPlan.Plan.{octets_of}
use Rattle.clnp_machine.specs.LiveModel.Node.{Goes, come_all}
use Rattle.clnp_machine.specs.LiveModel.Turn.{of_host}
use Rattle.clnp_program.proofs.LiveNode.Breaking.{breaks_as}
use Rattle.clnp_program.proofs.LiveNode.Playing.{plays_as, plays_nothing}
use Rattle.clnp_program.proofs.live_node.node.LiveNode.send.Goals as goal

pub returns-in-Router-clause-plays : goal.returns-in-Router-clause-plays
returns-in-Router-clause-plays g c = λ node h.
    let asked : Input = AsksToSend c.args.from c.args.to (octets_of c.args.body.now) c.args.ask.now in
    plays_as (λ outcomes. Goes node outcomes []) (come_all node (of_host _ asked)) node node c.args.self.now _ _ _ _
    (λ outcomes. ap (λ (role : Role). come_all node (of_host role asked) outcomes)
    (ap (λ (config : SystemConfiguration). config.role) (sym c.config.ensures) ∙ (sym c.role.ensures ∙ c.in-Router.is))) refl
    (plays_nothing node c.args.self.now (g.B.Ports.ports c.args.board.now) (g.K.Sink.written c.args.sink.now) h)

pub returns-in-Host-clause-plays : goal.returns-in-Host-clause-plays
returns-in-Host-clause-plays g c =
    let asked : Input = AsksToSend c.args.from c.args.to (octets_of c.args.body.now) c.args.ask.now in
    on_ok_weaker c.send_unit.result (λ k node h.
    plays_as (come_all node (asked ∷ [])) (come_all node (of_host _ asked)) node node _ _ _ _ _
    (λ outcomes. ap (λ (role : Role). come_all node (of_host role asked) outcomes)
    (ap (λ (config : SystemConfiguration). config.role) (sym c.config.ensures) ∙ (sym c.role.ensures ∙ c.in-Host.is))) refl
    (k node h)) c.send_unit.ensures.plays

pub returns-in-Host-clause-breaks : goal.returns-in-Host-clause-breaks
returns-in-Host-clause-breaks g c =
    let asked : Input = AsksToSend c.args.from c.args.to (octets_of c.args.body.now) c.args.ask.now in
    IfErr-weaker c.send_unit.result _ _ (λ stop k node h.
    breaks_as _ (come_all node (asked ∷ [])) (come_all node (of_host _ asked)) node node _ _ _ _
    (λ outcomes. ap (λ (role : Role). come_all node (of_host role asked) outcomes)
    (ap (λ (config : SystemConfiguration). config.role) (sym c.config.ensures) ∙ (sym c.role.ensures ∙ c.in-Host.is))) refl
    (k node h)) c.send_unit.ensures.breaks
