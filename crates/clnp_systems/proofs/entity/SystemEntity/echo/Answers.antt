-- A request is a unit that is made as its definition asks.
use Rattle.std.proofs.Common.{◌≡◌, None, MatchResult, sym, subst}
use Rattle.std.proofs.lemmas.Result.{on_ok_weaker}
use Rattle.clnp_machine.specs.Pdus.declared.pdu_header.kind.Kind.TheVariants.{Erq}
use Rattle.clnp_machine.specs.ClnpPlan.declared.ask.Ask.{Ask}
use Rattle.clnp_machine.specs.Given.{Appends}
use Rattle.clnp_machine.specs.Local as locally
use Rattle.clnp_machine.specs.Step.{effect_of}
use Rattle.clnp_machine.specs.System.{next_number}
use Rattle.clnp_systems.specs.Local.{IsWhy}
use Rattle.clnp_systems.specs.EntityState.{SystemEntityState}
use Rattle.clnp_systems.specs.EntityStands.{Stands}
use Rattle.clnp_systems.proofs.entity.SystemEntity.echo.Goals as goal

pub returns-clause-answer : goal.returns-clause-answer
returns-clause-answer c = λ s h.
    let here = subst (λ (e : SystemEntityState). Stands e s) (sym c.self.view_is) h in
    subst (λ (ask : Ask). MatchResult c.make.result
    (λ unit. (locally.refusal s (locally.unit_of s Erq c.args.from c.args.to c.args.body.now ask) ≡ None) × (unit ≡ next_number s))
    (λ e. IsWhy e (locally.refusal s (locally.unit_of s Erq c.args.from c.args.to c.args.body.now ask))))
    (c.echo_ask-ask.ensures.value s here.parts.local) (c.make.ensures.answer s h)

pub returns-clause-stands : goal.returns-clause-stands
returns-clause-stands c =
    on_ok_weaker c.make.result (λ stands s h.
    let here = subst (λ (e : SystemEntityState). Stands e s) (sym c.self.view_is) h in
    subst (λ (ask : Ask). Stands c.make.new.self (locally.make s Erq c.args.from c.args.to c.args.body.now ask).after)
    (c.echo_ask-ask.ensures.value s here.parts.local) (stands s h)) c.make.ensures.stands

pub returns-clause-outputs : goal.returns-clause-outputs
returns-clause-outputs c =
    on_ok_weaker c.make.result (λ outputs s h.
    let here = subst (λ (e : SystemEntityState). Stands e s) (sym c.self.view_is) h in
    subst (λ (ask : Ask). Appends s.moment None c.args.out.now.items c.make.new.out.items
    (effect_of (locally.make s Erq c.args.from c.args.to c.args.body.now ask)).outputs)
    (c.echo_ask-ask.ensures.value s here.parts.local) (outputs s h)) c.make.ensures.outputs
