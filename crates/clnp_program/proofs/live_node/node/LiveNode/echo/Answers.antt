-- An echo request is asked for.
use Rattle.std.proofs.Common.{◌∙◌, List, [], ◌∷◌, refl}
use Rattle.std.proofs.lemmas.Result.{IfErr-weaker, on_ok_weaker}
use Rattle.clnp_machine.specs.Content.{Unlabelled}
use Rattle.clnp_machine.specs.System.{Input, AsksForEcho}
use Rattle.clnp_plan.specs.ScenarioPlan.Plan.{octets_of}
use Rattle.clnp_machine.specs.LiveModel.Node.{come_all}
use Rattle.clnp_program.proofs.LiveNode.Breaking.{breaks_as, breaks_for, breaks_nothing, echo_noticed, idle_come_all, more_asked, noticed}
use Rattle.clnp_program.proofs.LiveNode.Playing.{plays_as}
use Rattle.clnp_program.proofs.LiveNode.Inputs.{comes_as}
use Rattle.std.proofs.Common.{inr}
use Rattle.clnp_program.proofs.live_node.node.LiveNode.echo.Goals as goal

pub returns-clause-plays : goal.returns-clause-plays
returns-clause-plays g c =
    on_ok_weaker c.comes.result (λ k node h.
    plays_as _ _ node node _ _ _ _ _
    (λ outcomes. comes_as (λ octets. AsksForEcho c.args.from c.args.to octets) node outcomes (c.deref.ensures.value ∙ c.in-Ok.ensures)) refl
    (k node (Unlabelled []) h tt)) c.comes.ensures.plays

pub returns-clause-breaks : goal.returns-clause-breaks
returns-clause-breaks g c =
    IfErr-weaker c.comes.result _ _ (λ stop k node h.
    breaks_as _ _ _ node node _ _ _ _
    (λ outcomes. comes_as (λ octets. AsksForEcho c.args.from c.args.to octets) node outcomes (c.deref.ensures.value ∙ c.in-Ok.ensures)) refl
    (breaks_for _ _ _ node _ _ _ _ (noticed (echo_noticed node _ _ _)) (k node (Unlabelled []) h tt))) c.comes.ensures.breaks

pub returns-in_default-clause-breaks : goal.returns-in_default-clause-breaks
returns-in_default-clause-breaks g c = λ node h.
    let asked : List Input = AsksForEcho c.args.from c.args.to (octets_of c.args.body.now) ∷ [] in
    breaks_nothing _ (come_all node asked) node _ _ (idle_come_all asked node) h.attached
    (inr (more_asked node (AsksForEcho c.args.from c.args.to (octets_of c.args.body.now)) (echo_noticed node c.args.from c.args.to (octets_of c.args.body.now))))

pub returns-clause-moment : goal.returns-clause-moment
returns-clause-moment g c = on_ok_weaker c.comes.result (λ k. k (Unlabelled []) tt) c.comes.ensures.moment

pub returns-clause-config : goal.returns-clause-config
returns-clause-config g c = c.comes.ensures.config (Unlabelled []) tt
