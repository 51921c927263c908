-- It goes on as it was found, or is discarded for the reason.
use Rattle.std.proofs.Common.{◌∙◌, sym, ap, subst, ℕ, List, None}
use Rattle.std.proofs.lemmas.Result.{on_ok_weaker}
use Rattle.std.specs.Prelude.{Result}
use Rattle.clnp_machine.specs.Pdus.declared.clnp_options.reasons.Reason.{Reason}
use Rattle.clnp_machine.specs.Content.{Labelled}
use Rattle.clnp_machine.specs.Given.{Appends}
use Rattle.clnp_machine.specs.Local.{discard}
use Rattle.clnp_machine.specs.Step.{effect_of}
use Rattle.clnp_machine.specs.System.{Effect, Output, SystemState}
use Rattle.clnp_systems.specs.EntityStands as entity
use Rattle.clnp_systems.specs.Router.Onward.{ComesTo}
use Rattle.clnp_systems.specs.Router.State.{RouterState}
use Rattle.clnp_systems.specs.declared.onward.Onward.{Onward}
use Rattle.clnp_systems.proofs.Going.{appends_whatever_came}
use Rattle.clnp_systems.proofs.RouterPassing.{onward}
use Rattle.clnp_systems.proofs.router.Router.forward.Goals as goal

pub of-head-requires : goal.of-head-requires
of-head-requires c = (c.requires.pdu.value, c.requires.pdu.has_value.header)

pub returns-in-Ok-clause-stands : goal.returns-in-Ok-clause-stands
returns-in-Ok-clause-stands c =
    on_ok_weaker c.go_on.result (λ gone s p following h carriable has frame.
    gone s p following (onward s c.args.came.now p following) h carriable has frame
    (subst (λ (r : Result Onward Reason). ComesTo r c.onward.new.head s c.args.came.now p following (onward s c.args.came.now p following)) c.in-Ok.is
    (c.onward.ensures.goes s c.args.came.now p following h carriable has)))
    c.go_on.ensures.stands

pub returns-in-Ok-clause-outputs : goal.returns-in-Ok-clause-outputs
returns-in-Ok-clause-outputs c =
    on_ok_weaker c.go_on.result (λ gone s p following h carriable has frame.
    gone s p following (onward s c.args.came.now p following) h carriable has frame
    (subst (λ (r : Result Onward Reason). ComesTo r c.onward.new.head s c.args.came.now p following (onward s c.args.came.now p following)) c.in-Ok.is
    (c.onward.ensures.goes s c.args.came.now p following h carriable has)))
    c.go_on.ensures.outputs

pub returns-in-Err-clause-stands : goal.returns-in-Err-clause-stands
returns-in-Err-clause-stands c =
    on_ok_weaker c.discard.result (λ dropped s p following h carriable has frame.
    let stands = subst (λ (router : RouterState). entity.Stands router.entity s) (sym c.self.view_is) h in
    let is = subst (λ (r : Result Onward Reason). ComesTo r c.onward.new.head s c.args.came.now p following (onward s c.args.came.now p following)) c.in-Err.is (c.onward.ensures.goes s c.args.came.now p following h carriable has) in
    subst (λ (t : SystemState). entity.Stands c.discard.new.self t)
    (ap (λ (reason : ℕ). (discard s (Labelled p following) reason 0).after) c.code.ensures ∙ sym (ap (λ (e : Effect). e.after) is))
    (dropped s (Labelled p following) stands carriable (sym frame)))
    c.discard.ensures.stands

pub returns-in-Err-clause-outputs : goal.returns-in-Err-clause-outputs
returns-in-Err-clause-outputs c =
    on_ok_weaker c.discard.result (λ dropped s p following h carriable has frame.
    let stands = subst (λ (router : RouterState). entity.Stands router.entity s) (sym c.self.view_is) h in
    let is = subst (λ (r : Result Onward Reason). ComesTo r c.onward.new.head s c.args.came.now p following (onward s c.args.came.now p following)) c.in-Err.is (c.onward.ensures.goes s c.args.came.now p following h carriable has) in
    appends_whatever_came s.moment (Labelled p following) c.args.out.now.items c.discard.new.out.items (onward s c.args.came.now p following).outputs
    (subst (λ (others : List Output). Appends s.moment None c.args.out.now.items c.discard.new.out.items others)
    (ap (λ (reason : ℕ). (effect_of (discard s (Labelled p following) reason 0)).outputs) c.code.ensures ∙ sym (ap (λ (e : Effect). e.outputs) is))
    (dropped s (Labelled p following) stands carriable (sym frame))))
    c.discard.ensures.outputs
