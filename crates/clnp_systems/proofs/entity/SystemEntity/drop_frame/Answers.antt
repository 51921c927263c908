-- The entity notes it, and what it does is given out.
use Rattle.std.proofs.Common.{◌∙◌, ℕ, refl, sym, ap, subst, None}
use Rattle.std.specs.List.{AllByRecursion}
use Rattle.clnp_machine.specs.Given.{Appends}
use Rattle.clnp_machine.specs.Local.{discard}
use Rattle.clnp_machine.specs.Step.{effect_of}
use Rattle.clnp_systems.specs.Deeds.{IsFresh}
use Rattle.clnp_systems.specs.Seen.{state_of}
use Rattle.clnp_systems.specs.EntityState.{SystemEntityState}
use Rattle.clnp_systems.specs.EntityStands.{PartsStand}
use Rattle.clnp_systems.proofs.Outputs.{all_done}
use Rattle.clnp_systems.proofs.EntityParts.{deed_is_fresh, parts_after_deed, parts_now}
use Rattle.clnp_systems.proofs.Working.{on_err, on_ok_refused, sound_at_work}
use Rattle.clnp_systems.proofs.entity.SystemEntity.drop_frame.Goals as goal

pub give_out-requires : goal.give_out-requires
give_out-requires c =
    let s = c.requires.at_work.state in
    let parts = subst (λ (e : SystemEntityState). PartsStand e s) (sym c.self.view_is) c.requires.at_work.parts in
    let content = c.has_content.ensures in
    let deed = discard s content.0 c.args.reason c.args.place in (
      deed.actions,
      all_done c.new-actions.result.items c.discard.new.out.items deed.actions c.new-actions.ensures.items
          (c.in_ok-discard.ensures.actions s content.0 parts.local (sym parts.moment) content.1 content.2),
    )

pub returns-clause-stands : goal.returns-clause-stands
returns-clause-stands c = λ s content h carried frame.
    let parts = subst (λ (e : SystemEntityState). PartsStand e s) (sym c.self.view_is) h in
    let deed = discard s content c.args.reason c.args.place in
    let is = c.deeds_are_of_their_moment.ensures.discard s content c.args.reason c.args.place in
    parts_now s.moment _ deed.after is.moment
    (parts_after_deed s.moment _ c.discard.new.self s deed is
    (c.in_ok-discard.ensures.stands s content parts.local (sym parts.moment) carried frame) parts)

pub returns-clause-outputs : goal.returns-clause-outputs
returns-clause-outputs c = λ s content h carried frame.
    let parts = subst (λ (e : SystemEntityState). PartsStand e s) (sym c.self.view_is) h in
    let deed = discard s content c.args.reason c.args.place in
    let done = all_done c.new-actions.result.items c.discard.new.out.items deed.actions c.new-actions.ensures.items
    (c.in_ok-discard.ensures.actions s content parts.local (sym parts.moment) carried frame) in
    let is = c.deeds_are_of_their_moment.ensures.discard s content c.args.reason c.args.place in
    subst (λ (m : ℕ). Appends m None c.args.out.now.items c.give_out.new.out.items (effect_of deed).outputs) is.moment
    (c.in_ok-give_out.ensures.given deed.after deed.after.moment deed.actions (returns-clause-stands c s content h carried frame) done
    (subst (λ (m : ℕ). AllByRecursion (IsFresh m) deed.actions) (sym is.moment) (deed_is_fresh s deed is)))

-- what it keeps, and where memory is refused
pub invariant_of-self : goal.invariant_of-self
invariant_of-self c = sound_at_work (state_of c.self.inside) c.args.self.now c.discard.new.self c.self.inside.esis c.self.inside.moment c.self.view_is c.requires.at_work c.self.invariant c.self.invariant.moment c.discard.ensures.config

pub invariant_of-self-2 : goal.invariant_of-self-2
invariant_of-self-2 c = sound_at_work (state_of c.self.inside) c.args.self.now c.discard.new.self c.self.inside.esis c.self.inside.moment c.self.view_is c.requires.at_work c.self.invariant c.self.invariant.moment c.discard.ensures.config

pub returns-in_err-discard-clause-stands : goal.returns-in_err-discard-clause-stands
returns-in_err-discard-clause-stands c = on_ok_refused c.from_residual.result _ c.from_residual.ensures.0

pub returns-in_err-discard-clause-outputs : goal.returns-in_err-discard-clause-outputs
returns-in_err-discard-clause-outputs c = on_ok_refused c.from_residual.result _ c.from_residual.ensures.0

pub returns-in_err-discard-clause-none : goal.returns-in_err-discard-clause-none
returns-in_err-discard-clause-none c = on_err c.from_residual.result refl

pub returns-in_err-discard-clause-moment : goal.returns-in_err-discard-clause-moment
returns-in_err-discard-clause-moment c = ap (λ (e : SystemEntityState). e.moment) c.self.view_is

pub returns-in_err-discard-clause-spent : goal.returns-in_err-discard-clause-spent
returns-in_err-discard-clause-spent c = ap (λ (e : SystemEntityState). e.spent) c.self.view_is

pub returns-in_err-discard-clause-congested : goal.returns-in_err-discard-clause-congested
returns-in_err-discard-clause-congested c = ap (λ (e : SystemEntityState). e.congested) c.self.view_is

pub returns-in_err-discard-clause-config : goal.returns-in_err-discard-clause-config
returns-in_err-discard-clause-config c = c.discard.ensures.config ∙ ap (λ (e : SystemEntityState). e.local.configuration) c.self.view_is

pub returns-in_err-give_out-clause-stands : goal.returns-in_err-give_out-clause-stands
returns-in_err-give_out-clause-stands c = on_ok_refused c.from_residual-in_err-give_out.result _ c.from_residual-in_err-give_out.ensures.0

pub returns-in_err-give_out-clause-outputs : goal.returns-in_err-give_out-clause-outputs
returns-in_err-give_out-clause-outputs c = on_ok_refused c.from_residual-in_err-give_out.result _ c.from_residual-in_err-give_out.ensures.0

pub returns-in_err-give_out-clause-none : goal.returns-in_err-give_out-clause-none
returns-in_err-give_out-clause-none c = on_err c.from_residual-in_err-give_out.result c.in_err-give_out.ensures.none

pub returns-in_err-give_out-clause-moment : goal.returns-in_err-give_out-clause-moment
returns-in_err-give_out-clause-moment c = ap (λ (e : SystemEntityState). e.moment) c.self.view_is

pub returns-in_err-give_out-clause-spent : goal.returns-in_err-give_out-clause-spent
returns-in_err-give_out-clause-spent c = ap (λ (e : SystemEntityState). e.spent) c.self.view_is

pub returns-in_err-give_out-clause-congested : goal.returns-in_err-give_out-clause-congested
returns-in_err-give_out-clause-congested c = ap (λ (e : SystemEntityState). e.congested) c.self.view_is

pub returns-in_err-give_out-clause-config : goal.returns-in_err-give_out-clause-config
returns-in_err-give_out-clause-config c = c.discard.ensures.config ∙ ap (λ (e : SystemEntityState). e.local.configuration) c.self.view_is

pub returns-clause-none : goal.returns-clause-none
returns-clause-none c = tt

pub returns-clause-moment : goal.returns-clause-moment
returns-clause-moment c = ap (λ (e : SystemEntityState). e.moment) c.self.view_is

pub returns-clause-spent : goal.returns-clause-spent
returns-clause-spent c = ap (λ (e : SystemEntityState). e.spent) c.self.view_is

pub returns-clause-congested : goal.returns-clause-congested
returns-clause-congested c = ap (λ (e : SystemEntityState). e.congested) c.self.view_is

pub returns-clause-config : goal.returns-clause-config
returns-clause-config c = c.discard.ensures.config ∙ ap (λ (e : SystemEntityState). e.local.configuration) c.self.view_is
