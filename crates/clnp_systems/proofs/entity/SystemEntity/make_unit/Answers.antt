-- The unit that was made is given out.
use Rattle.std.proofs.Common.{◌∙◌, ℕ, refl, sym, ap, subst, None}
use Rattle.std.specs.List.{AllByRecursion}
use Rattle.clnp_machine.specs.Local.{make}
use Rattle.clnp_machine.specs.Given.{Appends}
use Rattle.clnp_machine.specs.Step.{effect_of}
use Rattle.clnp_systems.specs.Deeds.{IsFresh}
use Rattle.clnp_systems.specs.Seen.{state_of}
use Rattle.clnp_systems.specs.EntityState.{SystemEntityState}
use Rattle.clnp_systems.specs.EntityStands.{PartsStand}
use Rattle.clnp_systems.proofs.Outputs.{all_done}
use Rattle.clnp_systems.proofs.EntityParts.{deed_is_fresh, parts_after_deed, parts_now}
use Rattle.clnp_systems.proofs.Working.{on_err, on_ok_refused, sound_at_work}
use Rattle.clnp_systems.proofs.entity.SystemEntity.make_unit.Goals as goal

pub returns-clause-stands : goal.returns-clause-stands
returns-clause-stands c = λ s h.
    let parts = subst (λ (e : SystemEntityState). PartsStand e s) (sym c.self.view_is) h in
    let deed = make s c.args.kind c.args.from c.args.to c.args.body.now c.args.ask.now in
    let is = c.deeds_are_of_their_moment.ensures.make s c.args.kind c.args.from c.args.to c.args.body.now c.args.ask.now in
    parts_now s.moment _ deed.after is.moment (parts_after_deed s.moment _ c.make.new.self s deed is
    (c.in_ok-unit.ensures.stands s parts.local (sym parts.moment)) parts)

pub returns-clause-outputs : goal.returns-clause-outputs
returns-clause-outputs c = λ s h.
    let parts = subst (λ (e : SystemEntityState). PartsStand e s) (sym c.self.view_is) h in
    let deed = make s c.args.kind c.args.from c.args.to c.args.body.now c.args.ask.now in
    let is = c.deeds_are_of_their_moment.ensures.make s c.args.kind c.args.from c.args.to c.args.body.now c.args.ask.now in
    let done = all_done c.new-actions.result.items c.make.new.out.items deed.actions c.new-actions.ensures.items
    (c.in_ok-unit.ensures.actions s parts.local (sym parts.moment)) in
    let t = deed.after in
    subst (λ (m : ℕ). Appends m None c.args.out.now.items c.give_out.new.out.items (effect_of deed).outputs) is.moment
    (c.in-Ok.ensures.given t t.moment deed.actions (returns-clause-stands c s h) done
    (subst (λ (m : ℕ). AllByRecursion (IsFresh m) deed.actions) (sym is.moment) (deed_is_fresh s deed is)))

-- what it keeps, and where memory is refused
pub invariant_of-self : goal.invariant_of-self
invariant_of-self c = sound_at_work (state_of c.self.inside) c.args.self.now c.make.new.self c.self.inside.esis c.self.inside.moment c.self.view_is c.requires.at_work c.self.invariant c.self.invariant.moment c.make.ensures.config

pub invariant_of-self-2 : goal.invariant_of-self-2
invariant_of-self-2 c = sound_at_work (state_of c.self.inside) c.args.self.now c.make.new.self c.self.inside.esis c.self.inside.moment c.self.view_is c.requires.at_work c.self.invariant c.self.invariant.moment c.make.ensures.config

pub returns-in_err-unit-clause-stands : goal.returns-in_err-unit-clause-stands
returns-in_err-unit-clause-stands c = on_ok_refused c.from_residual.result _ c.from_residual.ensures.0

pub returns-in_err-unit-clause-outputs : goal.returns-in_err-unit-clause-outputs
returns-in_err-unit-clause-outputs c = on_ok_refused c.from_residual.result _ c.from_residual.ensures.0

pub returns-in_err-unit-clause-none : goal.returns-in_err-unit-clause-none
returns-in_err-unit-clause-none c = on_err c.from_residual.result refl

pub returns-in_err-unit-clause-moment : goal.returns-in_err-unit-clause-moment
returns-in_err-unit-clause-moment c = ap (λ (e : SystemEntityState). e.moment) c.self.view_is

pub returns-in_err-unit-clause-spent : goal.returns-in_err-unit-clause-spent
returns-in_err-unit-clause-spent c = ap (λ (e : SystemEntityState). e.spent) c.self.view_is

pub returns-in_err-unit-clause-congested : goal.returns-in_err-unit-clause-congested
returns-in_err-unit-clause-congested c = ap (λ (e : SystemEntityState). e.congested) c.self.view_is

pub returns-in_err-unit-clause-config : goal.returns-in_err-unit-clause-config
returns-in_err-unit-clause-config c = c.make.ensures.config ∙ ap (λ (e : SystemEntityState). e.local.configuration) c.self.view_is

pub returns-clause-none : goal.returns-clause-none
returns-clause-none c = tt

pub returns-clause-moment : goal.returns-clause-moment
returns-clause-moment c = ap (λ (e : SystemEntityState). e.moment) c.self.view_is

pub returns-clause-spent : goal.returns-clause-spent
returns-clause-spent c = ap (λ (e : SystemEntityState). e.spent) c.self.view_is

pub returns-clause-congested : goal.returns-clause-congested
returns-clause-congested c = ap (λ (e : SystemEntityState). e.congested) c.self.view_is

pub returns-clause-config : goal.returns-clause-config
returns-clause-config c = c.make.ensures.config ∙ ap (λ (e : SystemEntityState). e.local.configuration) c.self.view_is
