-- The pieces go on under their own headers, over the data in the frame, and then the redirect, if there is one.
use Rattle.std.proofs.Common.{◌≡◌, ◌∙◌, refl, sym, ap, subst, ℕ, true, List, ◌++◌, length, map, None, Some}
use Rattle.std.proofs.lemmas.Result.{err_from_is_err_and, on_ok_weaker}
use Rattle.clnp_machine.specs.ClnpViews.Extent.{Extent, part, seen, whole}
use Rattle.clnp_machine.specs.Content.{Labelled}
use Rattle.clnp_machine.specs.Given.{Appends}
use Rattle.clnp_machine.specs.Local.{discard}
use Rattle.clnp_machine.specs.Step.{effect_of, hop_by, options_behind, redirects}
use Rattle.clnp_machine.specs.declared.way.Hop.{Hop}
use Rattle.clnp_machine.specs.System.{Effect, Output, SystemState}
use Rattle.clnp_machine.specs.Unit.{value_of}
use Rattle.clnp_systems.specs.Sending.{transmission}
use Rattle.clnp_systems.specs.EntityStands as entity
use Rattle.clnp_systems.specs.EntityState.{SystemEntityState}
use Rattle.clnp_systems.specs.Router.State.{RouterState}
use Rattle.clnp_systems.proofs.Going.{data_in, goes, stays, appends_whatever_came, appends_both}
use Rattle.clnp_systems.proofs.router.Router.go_on.Goals as goal

pub returns-in-Err-clause-stands : goal.returns-in-Err-clause-stands
returns-in-Err-clause-stands c =
    on_ok_weaker c.discard.result (λ dropped s p following effect h carriable has frame on.
    let stands = subst (λ (router : RouterState). entity.Stands router.entity s) (sym c.self-in-Err.view_is) h in
    let is = stays s c.args.came.now p following effect c.args.passing.now c.args.onward.now c.args.head.now c.new.result carriable has c.requires.mtu on
    c.new.ensures.cut c.in-Err.field-0 c.in-Err.is in
    subst (λ (t : SystemState). entity.Stands c.discard.new.self t)
    (ap (λ (reason : ℕ). (discard s (Labelled p following) reason 0).after) c.code.ensures ∙ sym (ap (λ (e : Effect). e.after) is))
    (dropped s (Labelled p following) stands carriable (sym frame)))
    c.discard.ensures.stands

pub returns-in-Err-clause-outputs : goal.returns-in-Err-clause-outputs
returns-in-Err-clause-outputs c =
    on_ok_weaker c.discard.result (λ dropped s p following effect h carriable has frame on.
    let stands = subst (λ (router : RouterState). entity.Stands router.entity s) (sym c.self-in-Err.view_is) h in
    let is = stays s c.args.came.now p following effect c.args.passing.now c.args.onward.now c.args.head.now c.new.result carriable has c.requires.mtu on
    c.new.ensures.cut c.in-Err.field-0 c.in-Err.is in
    appends_whatever_came s.moment (Labelled p following) c.args.out.now.items c.discard.new.out.items effect.outputs
    (subst (λ (others : List Output). Appends s.moment None c.args.out.now.items c.discard.new.out.items others)
    (ap (λ (reason : ℕ). (effect_of (discard s (Labelled p following) reason 0)).outputs) c.code.ensures ∙ sym (ap (λ (e : Effect). e.outputs) is))
    (dropped s (Labelled p following) stands carriable (sym frame))))
    c.discard.ensures.outputs

pub returns-in_default-clause-stands : goal.returns-in_default-clause-stands
returns-in_default-clause-stands c = λ s p following effect h carriable has frame on.
    let stands = subst (λ (router : RouterState). entity.Stands router.entity s) (sym c.self.view_is) h in
    let given = goes s c.args.came.now p following effect c.args.passing.now c.args.onward.now c.args.head.now c.new.result carriable has c.requires.mtu on
    c.new.ensures.cut c.in-Ok.cuts c.in-Ok.is in
    subst (λ (t : SystemState). entity.Stands c.redirect.new.self.entity t) (sym given.after)
    (subst (λ (router : RouterState). entity.Stands router.entity s) (sym c.in_default.ensures.same)
    (subst (λ (e : SystemEntityState). entity.Stands e s) (sym c.in_ok-pass_on-in-Ok.ensures.same) stands))

pub returns-in_default-clause-outputs : goal.returns-in_default-clause-outputs
returns-in_default-clause-outputs c = λ s p following effect h carriable has frame on.
    let stands = subst (λ (router : RouterState). entity.Stands router.entity s) (sym c.self.view_is) h in
    let given = goes s c.args.came.now p following effect c.args.passing.now c.args.onward.now c.args.head.now c.new.result carriable has c.requires.mtu on
    c.new.ensures.cut c.in-Ok.cuts c.in-Ok.is in
    let way = c.args.onward.now.way in
    let head = c.args.passing.now.head.now in
    let len = c.args.passing.now.len in
    let body : Extent = part (length head) len (whole c.args.frame.now) in
    let shown : seen body ≡ (value_of p).body =
    data_in c.args.frame.now head following (value_of p) len frame has.header.octets_are has.len in
    let first : Appends s.moment (Some (Labelled p following)) c.args.out.now.items c.pass_on.new.out.items given.pieces =
    record {
      outputs = map (transmission true (hop_by way) body) c.in-Ok.cuts;
      appended = subst (λ (to : Hop). c.pass_on.new.out.items ≡ c.args.out.now.items ++ map (transmission true to body) c.in-Ok.cuts)
          c.hop-hop.ensures
          c.in_ok-pass_on-in-Ok.ensures.given;
      give_all = given.given body shown (ap length shown ∙ has.len);
    } in
    let second = appends_whatever_came s.moment (Labelled p following) c.pass_on.new.out.items c.redirect.new.out.items
    (redirects s c.args.came.now p (options_behind s p.options) way)
    (c.in_default.ensures.outputs s p (options_behind s p.options)
    (subst (λ (e : SystemEntityState). entity.Stands e s) (sym c.in_ok-pass_on-in-Ok.ensures.same) stands) has on.towards_title) in
    subst (λ (others : List Output). Appends s.moment (Some (Labelled p following)) c.args.out.now.items c.redirect.new.out.items others)
    (sym given.outputs)
    (appends_both s.moment (Some (Labelled p following)) c.args.out.now.items c.pass_on.new.out.items c.redirect.new.out.items given.pieces
    (redirects s c.args.came.now p (options_behind s p.options) way) first second)

pub returns-in-Err-clause-none : goal.returns-in-Err-clause-none
returns-in-Err-clause-none c = c.discard.ensures.none

pub returns-in-Err-clause-spent : goal.returns-in-Err-clause-spent
returns-in-Err-clause-spent c = c.discard.ensures.spent

pub returns-in-Err-clause-refused : goal.returns-in-Err-clause-refused
returns-in-Err-clause-refused c spent = c.discard.ensures.refused (ap (λ (router : RouterState). router.entity.spent) c.self-in-Err.view_is ∙ spent)

pub returns-in-Err-clause-moment : goal.returns-in-Err-clause-moment
returns-in-Err-clause-moment c = c.discard.ensures.moment ∙ ap (λ (router : RouterState). router.entity.moment) c.self-in-Err.view_is

pub returns-in-Err-clause-congested : goal.returns-in-Err-clause-congested
returns-in-Err-clause-congested c = c.discard.ensures.congested ∙ ap (λ (router : RouterState). router.entity.congested) c.self-in-Err.view_is

pub returns-in-Err-clause-config : goal.returns-in-Err-clause-config
returns-in-Err-clause-config c = c.discard.ensures.config ∙ ap (λ (router : RouterState). router.entity.local.configuration) c.self-in-Err.view_is

pub returns-in_default-clause-refused : goal.returns-in_default-clause-refused
returns-in_default-clause-refused c spent = c.in_ok-pass_on-in-Ok.ensures.refused (ap (λ (router : RouterState). router.entity.spent) c.self.view_is ∙ spent)

pub returns-in_default-clause-moment : goal.returns-in_default-clause-moment
returns-in_default-clause-moment c = c.redirect.ensures.moment ∙ c.pass_on.ensures.moment ∙ ap (λ (router : RouterState). router.entity.moment) c.self.view_is

pub returns-in_default-clause-congested : goal.returns-in_default-clause-congested
returns-in_default-clause-congested c = c.redirect.ensures.congested ∙ c.pass_on.ensures.congested ∙ ap (λ (router : RouterState). router.entity.congested) c.self.view_is

pub returns-in_default-clause-config : goal.returns-in_default-clause-config
returns-in_default-clause-config c = c.redirect.ensures.config ∙ c.pass_on.ensures.config ∙ ap (λ (router : RouterState). router.entity.local.configuration) c.self.view_is

pub returns-in_err-pass_on-in-Ok-clause-stands : goal.returns-in_err-pass_on-in-Ok-clause-stands
returns-in_err-pass_on-in-Ok-clause-stands c = let refused = err_from_is_err_and c.from_residual.result c.from_residual.ensures.1 in rw (refused.1) tt

pub returns-in_err-pass_on-in-Ok-clause-outputs : goal.returns-in_err-pass_on-in-Ok-clause-outputs
returns-in_err-pass_on-in-Ok-clause-outputs c = let refused = err_from_is_err_and c.from_residual.result c.from_residual.ensures.1 in rw (refused.1) tt

pub returns-in_err-pass_on-in-Ok-clause-none : goal.returns-in_err-pass_on-in-Ok-clause-none
returns-in_err-pass_on-in-Ok-clause-none c = let refused = err_from_is_err_and c.from_residual.result c.from_residual.ensures.1 in rw (refused.1) c.in_err-pass_on-in-Ok.ensures.none

pub returns-in_err-pass_on-in-Ok-clause-spent : goal.returns-in_err-pass_on-in-Ok-clause-spent
returns-in_err-pass_on-in-Ok-clause-spent c = let refused = err_from_is_err_and c.from_residual.result c.from_residual.ensures.1 in rw (refused.1) c.in_err-pass_on-in-Ok.ensures.spent

pub returns-in_err-pass_on-in-Ok-clause-refused : goal.returns-in_err-pass_on-in-Ok-clause-refused
returns-in_err-pass_on-in-Ok-clause-refused c spent = let refused = err_from_is_err_and c.from_residual.result c.from_residual.ensures.1 in rw (refused.1) refl

pub returns-in_err-pass_on-in-Ok-clause-moment : goal.returns-in_err-pass_on-in-Ok-clause-moment
returns-in_err-pass_on-in-Ok-clause-moment c = c.pass_on.ensures.moment ∙ ap (λ (router : RouterState). router.entity.moment) c.self.view_is

pub returns-in_err-pass_on-in-Ok-clause-congested : goal.returns-in_err-pass_on-in-Ok-clause-congested
returns-in_err-pass_on-in-Ok-clause-congested c = c.pass_on.ensures.congested ∙ ap (λ (router : RouterState). router.entity.congested) c.self.view_is

pub returns-in_err-pass_on-in-Ok-clause-config : goal.returns-in_err-pass_on-in-Ok-clause-config
returns-in_err-pass_on-in-Ok-clause-config c = c.pass_on.ensures.config ∙ ap (λ (router : RouterState). router.entity.local.configuration) c.self.view_is

pub returns-in-Err-redirect-clause-spent : goal.returns-in-Err-redirect-clause-spent
returns-in-Err-redirect-clause-spent c = c.in-Err-redirect.ensures.spent

pub returns-in-Err-redirect-clause-moment : goal.returns-in-Err-redirect-clause-moment
returns-in-Err-redirect-clause-moment c = c.redirect.ensures.moment ∙ c.pass_on.ensures.moment ∙ ap (λ (router : RouterState). router.entity.moment) c.self.view_is

pub returns-in-Err-redirect-clause-congested : goal.returns-in-Err-redirect-clause-congested
returns-in-Err-redirect-clause-congested c = c.redirect.ensures.congested ∙ c.pass_on.ensures.congested ∙ ap (λ (router : RouterState). router.entity.congested) c.self.view_is

pub returns-in-Err-redirect-clause-config : goal.returns-in-Err-redirect-clause-config
returns-in-Err-redirect-clause-config c = c.redirect.ensures.config ∙ c.pass_on.ensures.config ∙ ap (λ (router : RouterState). router.entity.local.configuration) c.self.view_is
