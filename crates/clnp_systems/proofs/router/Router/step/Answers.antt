-- Each input is a call of its own.
use Rattle.std.proofs.Common.{subst}
use Rattle.std.proofs.lemmas.Result.{on_ok_weaker}
use Rattle.clnp_machine.specs.ClnpPlan.declared.config.Role.TheVariants as role
use Rattle.clnp_machine.specs.System.{AsksForEcho, AsksToSend, IsCongested, IsRestarted}
use Rattle.clnp_systems.specs.Steps.{TakesStep}
use Rattle.clnp_systems.proofs.Kept.{keeps_role}
use Rattle.clnp_systems.specs.Router.State.{RouterState}
use Rattle.clnp_systems.proofs.router.Router.step.Goals as goal

pub returns-in-Moment-clause-step : goal.returns-in-Moment-clause-step
returns-in-Moment-clause-step c = rw c.in-Moment.is (on_ok_weaker c.tick.result (λ takes content comes. takes) c.tick.ensures.step)

pub returns-in-Frame-clause-step : goal.returns-in-Frame-clause-step
returns-in-Frame-clause-step c =
    rw c.in-Frame.is (on_ok_weaker c.frame.result (λ takes content comes. takes content comes.0 comes.1) c.frame.ensures.step)

pub returns-in-Send-clause-step : goal.returns-in-Send-clause-step
returns-in-Send-clause-step c =
    rw c.in-Send.is (on_ok_weaker c.send_or_note.result (λ takes content comes.
    subst (λ (router : RouterState). TakesStep role.Router (AsksToSend c.in-Send.from c.in-Send.to c.in-Send.body.now c.in-Send.ask.now) router.entity
    c.send_or_note.new.self c.args.out.now.items c.send_or_note.new.out.items) c.self.view_is (takes role.Router))
    c.send_or_note.ensures.step)

pub returns-in-Echo-clause-step : goal.returns-in-Echo-clause-step
returns-in-Echo-clause-step c =
    rw c.in-Echo.is (on_ok_weaker c.echo_or_note.result (λ takes content comes.
    subst (λ (router : RouterState). TakesStep role.Router (AsksForEcho c.in-Echo.from c.in-Echo.to c.in-Echo.body.now) router.entity
    c.echo_or_note.new.self c.args.out.now.items c.echo_or_note.new.out.items) c.self-in-Echo.view_is (takes role.Router))
    c.echo_or_note.ensures.step)

pub returns-in-Restart-clause-step : goal.returns-in-Restart-clause-step
returns-in-Restart-clause-step c =
    rw c.in-Restart.is (on_ok_weaker c.restart_and_note.result (λ takes content comes.
    subst (λ (router : RouterState). TakesStep role.Router IsRestarted router.entity
    c.restart_and_note.new.self c.args.out.now.items c.restart_and_note.new.out.items) c.self-in-Restart.view_is (takes role.Router))
    c.restart_and_note.ensures.step)

pub returns-in-Congest-clause-step : goal.returns-in-Congest-clause-step
returns-in-Congest-clause-step c =
    rw c.in-Congest.is (on_ok_weaker c.congest_and_note.result (λ takes content comes.
    subst (λ (router : RouterState). TakesStep role.Router (IsCongested c.in-Congest.on) router.entity
    c.congest_and_note.new.self c.args.out.now.items c.congest_and_note.new.out.items) c.self-in-Congest.view_is (takes role.Router))
    c.congest_and_note.ensures.step)

pub invariant_of-self : goal.invariant_of-self
invariant_of-self c =
    keeps_role c.send_or_note.result (AsksToSend c.in-Send.from c.in-Send.to c.in-Send.body.now c.in-Send.ask.now) c.self.inside.entity c.send_or_note.new.self c.args.out.now.items c.send_or_note.new.out.items role.Router
    c.send_or_note.ensures.step c.send_or_note.ensures.spent c.self.invariant

pub invariant_of-self-in-Echo : goal.invariant_of-self-in-Echo
invariant_of-self-in-Echo c =
    keeps_role c.echo_or_note.result (AsksForEcho c.in-Echo.from c.in-Echo.to c.in-Echo.body.now) c.self-in-Echo.inside.entity c.echo_or_note.new.self c.args.out.now.items c.echo_or_note.new.out.items role.Router
    c.echo_or_note.ensures.step c.echo_or_note.ensures.spent c.self-in-Echo.invariant

pub invariant_of-self-in-Restart : goal.invariant_of-self-in-Restart
invariant_of-self-in-Restart c =
    keeps_role c.restart_and_note.result IsRestarted c.self-in-Restart.inside.entity c.restart_and_note.new.self c.args.out.now.items c.restart_and_note.new.out.items role.Router
    c.restart_and_note.ensures.step c.restart_and_note.ensures.spent c.self-in-Restart.invariant

pub invariant_of-self-in-Congest : goal.invariant_of-self-in-Congest
invariant_of-self-in-Congest c =
    keeps_role c.congest_and_note.result (IsCongested c.in-Congest.on) c.self-in-Congest.inside.entity c.congest_and_note.new.self c.args.out.now.items c.congest_and_note.new.out.items role.Router
    c.congest_and_note.ensures.step c.congest_and_note.ensures.spent c.self-in-Congest.invariant
