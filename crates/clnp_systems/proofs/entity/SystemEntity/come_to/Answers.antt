-- Buffers end, what was heard is forgotten, and a hello may be due.
use Rattle.std.proofs.Common.{◌≡◌, ◌∙◌, ℕ, ◌≤◌, refl, sym, ap, subst, List, [], ◌++◌, arith, length, None}
use Rattle.std.specs.List.{AllByRecursion, flat_map}
use Rattle.std.proofs.lemmas.Bool.{eqb-true}
use Rattle.std.proofs.lemmas.List.{nil_from_length}
use Rattle.clnp_machine.specs.Given.{Appends}
use Rattle.clnp_machine.specs.Esis.{forgets, says_hello}
use Rattle.clnp_machine.specs.Local as locally
use Rattle.clnp_machine.specs.Local.{at_moment, tick}
use Rattle.clnp_machine.specs.Step.{effect_of, outputs_of}
use Rattle.clnp_machine.specs.System.{SystemState, then_does}
use Rattle.clnp_systems.specs.Deeds.{IsFresh}
use Rattle.clnp_systems.specs.Seen.{state_of}
use Rattle.clnp_systems.specs.EntityState.{SystemEntityState}
use Rattle.clnp_systems.specs.EntityStands.{PartsStand, PartsStandSince}
use Rattle.clnp_systems.proofs.Outputs.{all_done, appends_fresh, appends_both, none_done}
use Rattle.clnp_systems.proofs.EntityParts.{deed_is_fresh, parts_after_deed, parts_after_hello, parts_later}
use Rattle.clnp_systems.proofs.Working.{on_err, on_ok_refused, sound_at_work}
use Rattle.clnp_systems.proofs.entity.SystemEntity.come_to.Goals as goal

pub give_out-requires : goal.give_out-requires
give_out-requires c =
    let s = c.requires.at_work.state in
    let parts = subst (λ (e : SystemEntityState). PartsStand e s) (sym c.self.view_is) c.requires.at_work.parts in
    let deed = tick s c.args.now in (
      deed.actions,
      all_done c.new-actions.result.items c.tick.new.out.items deed.actions c.new-actions.ensures.items (c.in_ok-tick.ensures.actions s parts.local),
    )

abbrev inside : goal.After-drop-outputs-2 → SystemEntityState
inside c = state_of c.self.inside

-- once the buffers that were due are gone
ticked : (c : goal.After-drop-outputs-2) (s : SystemState) → PartsStand c.args.self.now s
    → PartsStandSince s.moment (record (inside c) { local = c.tick.new.self; moment = c.args.now }) (tick s c.args.now).after
ticked c s h =
    let parts = subst (λ (e : SystemEntityState). PartsStand e s) (sym c.self.view_is) h in
    let later : c.self.inside.moment ≤ c.args.now = subst (λ (e : SystemEntityState). e.moment ≤ c.args.now) (sym c.self.view_is) c.requires.later in
    parts_after_deed s.moment _ c.tick.new.self (at_moment c.args.now s) (tick s c.args.now)
    (c.deeds_are_of_their_moment.ensures.tick s c.args.now) (c.in_ok-tick.ensures.stands s parts.local)
    (parts_later (inside c) s c.args.now later parts)

-- no buffer was due
pub returns-then-is_empty-clause-stands : goal.returns-then-is_empty-clause-stands
returns-then-is_empty-clause-stands c = λ s h.
    let parts = subst (λ (e : SystemEntityState). PartsStand e s) (sym c.self.view_is) h in
    let later : c.self.inside.moment ≤ c.args.now = subst (λ (e : SystemEntityState). e.moment ≤ c.args.now) (sym c.self.view_is) c.requires.later in
    let is = c.deeds_are_of_their_moment.ensures.tick s c.args.now in
    let stands = parts_after_deed s.moment _ c.tick.new.self (at_moment c.args.now s) (tick s c.args.now) is (c.in_ok-tick.ensures.stands s parts.local)
    (parts_later (state_of c.self.inside) s c.args.now later parts) in
    let t = (tick s c.args.now).after in
    let now : t.moment ≡ c.args.now = is.moment in
    let configuration : t.configuration ≡ c.config.result.now = sym stands.local.configuration ∙ sym c.config.ensures in
    let number : length t.attached.ports ≡ c.port_count-ports.result = ap length (sym stands.ports) ∙ sym c.port_count-ports.ensures in
    parts_after_hello s.moment _ c.tick-then-is_empty.new.self t (says_hello t) (c.hellos_leave_the_rest.ensures.says_hello t)
    (c.in_ok-tick-2.ensures.stands t s.moment stands.esis configuration number now (subst (λ (m : ℕ). s.moment ≤ m) now stands.since)) stands

pub returns-then-is_empty-clause-outputs : goal.returns-then-is_empty-clause-outputs
returns-then-is_empty-clause-outputs c = λ s h.
    let parts = subst (λ (e : SystemEntityState). PartsStand e s) (sym c.self.view_is) h in
    let later : c.self.inside.moment ≤ c.args.now = subst (λ (e : SystemEntityState). e.moment ≤ c.args.now) (sym c.self.view_is) c.requires.later in
    let deed = tick s c.args.now in
    let is = c.deeds_are_of_their_moment.ensures.tick s c.args.now in
    let stands = parts_after_deed s.moment _ c.tick.new.self (at_moment c.args.now s) deed is (c.in_ok-tick.ensures.stands s parts.local)
    (parts_later (state_of c.self.inside) s c.args.now later parts) in
    let t = deed.after in
    let now : t.moment ≡ c.args.now = is.moment in
    let configuration : t.configuration ≡ c.config.result.now = sym stands.local.configuration ∙ sym c.config.ensures in
    let number : length t.attached.ports ≡ c.port_count-ports.result = ap length (sym stands.ports) ∙ sym c.port_count-ports.ensures in
    let done = all_done c.new-actions.result.items c.tick.new.out.items deed.actions c.new-actions.ensures.items (c.in_ok-tick.ensures.actions s parts.local) in
    let idle : deed.actions ≡ [] = none_done c.tick.new.out.items deed.actions (nil_from_length c.tick.new.out.items (omega (arith, eqb-true _ 0 (sym c.is_empty.ensures ∙ c.if-is_empty.true), c.tick.new.out.ok.0))) done in
    subst (λ (actions : List locally.Action). Appends c.args.now None c.args.out.now.items c.tick-then-is_empty.new.out.items
    (flat_map (outputs_of t) actions ++ (then_does (forgets s.moment t) says_hello).outputs)) (sym idle)
    (c.in_ok-tick-2.ensures.outputs t s.moment stands.esis configuration number now (subst (λ (m : ℕ). s.moment ≤ m) now stands.since))

pub returns-clause-stands : goal.returns-clause-stands
returns-clause-stands c = λ s h.
    let stands = ticked c s h in
    let t = (tick s c.args.now).after in
    let now : t.moment ≡ c.args.now = (c.deeds_are_of_their_moment.ensures.tick s c.args.now).moment in
    let configuration : t.configuration ≡ c.config-2.result.now = sym stands.local.configuration ∙ sym c.config-2.ensures in
    let number : length t.attached.ports ≡ c.port_count-ports.result = ap length (sym stands.ports) ∙ sym c.port_count-ports.ensures in
    parts_after_hello s.moment _ c.tick-2.new.self t (says_hello t) (c.hellos_leave_the_rest.ensures.says_hello t)
    (c.in_ok-tick-3.ensures.stands t s.moment stands.esis configuration number now (subst (λ (m : ℕ). s.moment ≤ m) now stands.since)) stands

pub returns-clause-outputs : goal.returns-clause-outputs
returns-clause-outputs c = λ s h.
    let stands = ticked c s h in
    let parts = subst (λ (e : SystemEntityState). PartsStand e s) (sym c.self.view_is) h in
    let deed = tick s c.args.now in
    let t = deed.after in
    let is = c.deeds_are_of_their_moment.ensures.tick s c.args.now in
    let now : t.moment ≡ c.args.now = is.moment in
    let configuration : t.configuration ≡ c.config-2.result.now = sym stands.local.configuration ∙ sym c.config-2.ensures in
    let number : length t.attached.ports ≡ c.port_count-ports.result = ap length (sym stands.ports) ∙ sym c.port_count-ports.ensures in
    let done = all_done c.new-actions.result.items c.tick.new.out.items deed.actions c.new-actions.ensures.items (c.in_ok-tick.ensures.actions s parts.local) in
    let first = subst (λ (m : ℕ). Appends m None c.new-outputs.result.items c.give_out.new.out.items (effect_of deed).outputs) now
    (c.in_ok-give_out.ensures.given t s.moment deed.actions stands done
    (subst (λ (m : ℕ). AllByRecursion (IsFresh m) deed.actions) (sym now) (deed_is_fresh (at_moment c.args.now s) deed is))) in
    let second = c.in_ok-tick-3.ensures.outputs t s.moment stands.esis configuration number now (subst (λ (m : ℕ). s.moment ≤ m) now stands.since) in
    appends_fresh c.args.now c.new-outputs.result.items c.tick-2.new.out.items c.args.out.now.items c.append.new.self.items
    ((effect_of deed).outputs ++ (then_does (forgets s.moment t) says_hello).outputs) c.new-outputs.ensures.items c.in_ok-append.ensures.items
    (appends_both c.args.now None c.new-outputs.result.items c.give_out.new.out.items c.tick-2.new.out.items (effect_of deed).outputs
    (then_does (forgets s.moment t) says_hello).outputs first second)

-- what it keeps, and where memory is refused
pub tick-requires : goal.tick-requires
tick-requires c = record { moment = c.requires.moment }

pub tick-requires-then-is_empty : goal.tick-requires-then-is_empty
tick-requires-then-is_empty c = record { moment = c.requires.moment }

pub tick-requires-2 : goal.tick-requires-2
tick-requires-2 c = record { moment = c.requires.moment }

pub invariant_of-self : goal.invariant_of-self
invariant_of-self c = sound_at_work (state_of c.self.inside) c.args.self.now c.tick.new.self c.self.inside.esis c.self.inside.moment c.self.view_is c.requires.at_work c.self.invariant c.self.invariant.moment c.tick.ensures.config

pub invariant_of-self-2 : goal.invariant_of-self-2
invariant_of-self-2 c = sound_at_work (state_of c.self.inside) c.args.self.now c.tick.new.self c.self.inside.esis c.args.now c.self.view_is c.requires.at_work c.self.invariant c.requires.moment c.tick.ensures.config

pub invariant_of-self-3 : goal.invariant_of-self-3
invariant_of-self-3 c = sound_at_work (state_of c.self.inside) c.args.self.now c.tick.new.self c.self.inside.esis c.args.now c.self.view_is c.requires.at_work c.self.invariant c.requires.moment c.tick.ensures.config

pub invariant_of-self-in_err-give_out : goal.invariant_of-self-in_err-give_out
invariant_of-self-in_err-give_out c = sound_at_work (state_of c.self.inside) c.args.self.now c.tick.new.self c.self.inside.esis c.args.now c.self.view_is c.requires.at_work c.self.invariant c.requires.moment c.tick.ensures.config

pub invariant_of-self-in_err-tick-2 : goal.invariant_of-self-in_err-tick-2
invariant_of-self-in_err-tick-2 c = sound_at_work (state_of c.self.inside) c.args.self.now c.tick.new.self c.tick-then-is_empty.new.self c.args.now c.self.view_is c.requires.at_work c.self.invariant c.requires.moment c.tick.ensures.config

pub invariant_of-self-then-is_empty : goal.invariant_of-self-then-is_empty
invariant_of-self-then-is_empty c = sound_at_work (state_of c.self.inside) c.args.self.now c.tick.new.self c.tick-then-is_empty.new.self c.args.now c.self.view_is c.requires.at_work c.self.invariant c.requires.moment c.tick.ensures.config

pub invariant_of-self-in_err-tick-3 : goal.invariant_of-self-in_err-tick-3
invariant_of-self-in_err-tick-3 c = sound_at_work (state_of c.self.inside) c.args.self.now c.tick.new.self c.tick-2.new.self c.args.now c.self.view_is c.requires.at_work c.self.invariant c.requires.moment c.tick.ensures.config

pub invariant_of-self-in_err-append : goal.invariant_of-self-in_err-append
invariant_of-self-in_err-append c = sound_at_work (state_of c.self.inside) c.args.self.now c.tick.new.self c.tick-2.new.self c.args.now c.self.view_is c.requires.at_work c.self.invariant c.requires.moment c.tick.ensures.config

pub invariant_of-self-4 : goal.invariant_of-self-4
invariant_of-self-4 c = sound_at_work (state_of c.self.inside) c.args.self.now c.tick.new.self c.tick-2.new.self c.args.now c.self.view_is c.requires.at_work c.self.invariant c.requires.moment c.tick.ensures.config

pub returns-in_err-tick-clause-stands : goal.returns-in_err-tick-clause-stands
returns-in_err-tick-clause-stands c = on_ok_refused c.from_residual.result _ c.from_residual.ensures.0

pub returns-in_err-tick-clause-outputs : goal.returns-in_err-tick-clause-outputs
returns-in_err-tick-clause-outputs c = on_ok_refused c.from_residual.result _ c.from_residual.ensures.0

pub returns-in_err-tick-clause-moment : goal.returns-in_err-tick-clause-moment
returns-in_err-tick-clause-moment c = on_ok_refused c.from_residual.result _ c.from_residual.ensures.0

pub returns-in_err-tick-clause-none : goal.returns-in_err-tick-clause-none
returns-in_err-tick-clause-none c = on_err c.from_residual.result refl

pub returns-in_err-tick-clause-spent : goal.returns-in_err-tick-clause-spent
returns-in_err-tick-clause-spent c = ap (λ (e : SystemEntityState). e.spent) c.self.view_is

pub returns-in_err-tick-clause-congested : goal.returns-in_err-tick-clause-congested
returns-in_err-tick-clause-congested c = ap (λ (e : SystemEntityState). e.congested) c.self.view_is

pub returns-in_err-tick-clause-config : goal.returns-in_err-tick-clause-config
returns-in_err-tick-clause-config c = c.tick.ensures.config ∙ ap (λ (e : SystemEntityState). e.local.configuration) c.self.view_is

pub returns-in_err-tick-2-clause-stands : goal.returns-in_err-tick-2-clause-stands
returns-in_err-tick-2-clause-stands c = on_ok_refused c.from_residual-in_err-tick-2.result _ c.from_residual-in_err-tick-2.ensures.0

pub returns-in_err-tick-2-clause-outputs : goal.returns-in_err-tick-2-clause-outputs
returns-in_err-tick-2-clause-outputs c = on_ok_refused c.from_residual-in_err-tick-2.result _ c.from_residual-in_err-tick-2.ensures.0

pub returns-in_err-tick-2-clause-moment : goal.returns-in_err-tick-2-clause-moment
returns-in_err-tick-2-clause-moment c = on_ok_refused c.from_residual-in_err-tick-2.result _ c.from_residual-in_err-tick-2.ensures.0

pub returns-in_err-tick-2-clause-none : goal.returns-in_err-tick-2-clause-none
returns-in_err-tick-2-clause-none c = on_err c.from_residual-in_err-tick-2.result c.in_err-tick-2.ensures.none

pub returns-in_err-tick-2-clause-spent : goal.returns-in_err-tick-2-clause-spent
returns-in_err-tick-2-clause-spent c = ap (λ (e : SystemEntityState). e.spent) c.self.view_is

pub returns-in_err-tick-2-clause-congested : goal.returns-in_err-tick-2-clause-congested
returns-in_err-tick-2-clause-congested c = ap (λ (e : SystemEntityState). e.congested) c.self.view_is

pub returns-in_err-tick-2-clause-config : goal.returns-in_err-tick-2-clause-config
returns-in_err-tick-2-clause-config c = c.tick.ensures.config ∙ ap (λ (e : SystemEntityState). e.local.configuration) c.self.view_is

pub returns-in_err-give_out-clause-stands : goal.returns-in_err-give_out-clause-stands
returns-in_err-give_out-clause-stands c = on_ok_refused c.from_residual-in_err-give_out.result _ c.from_residual-in_err-give_out.ensures.0

pub returns-in_err-give_out-clause-outputs : goal.returns-in_err-give_out-clause-outputs
returns-in_err-give_out-clause-outputs c = on_ok_refused c.from_residual-in_err-give_out.result _ c.from_residual-in_err-give_out.ensures.0

pub returns-in_err-give_out-clause-moment : goal.returns-in_err-give_out-clause-moment
returns-in_err-give_out-clause-moment c = on_ok_refused c.from_residual-in_err-give_out.result _ c.from_residual-in_err-give_out.ensures.0

pub returns-in_err-give_out-clause-none : goal.returns-in_err-give_out-clause-none
returns-in_err-give_out-clause-none c = on_err c.from_residual-in_err-give_out.result refl

pub returns-in_err-give_out-clause-spent : goal.returns-in_err-give_out-clause-spent
returns-in_err-give_out-clause-spent c = ap (λ (e : SystemEntityState). e.spent) c.self.view_is

pub returns-in_err-give_out-clause-congested : goal.returns-in_err-give_out-clause-congested
returns-in_err-give_out-clause-congested c = ap (λ (e : SystemEntityState). e.congested) c.self.view_is

pub returns-in_err-give_out-clause-config : goal.returns-in_err-give_out-clause-config
returns-in_err-give_out-clause-config c = c.tick.ensures.config ∙ ap (λ (e : SystemEntityState). e.local.configuration) c.self.view_is

pub returns-in_err-tick-3-clause-stands : goal.returns-in_err-tick-3-clause-stands
returns-in_err-tick-3-clause-stands c = on_ok_refused c.from_residual-in_err-tick-3.result _ c.from_residual-in_err-tick-3.ensures.0

pub returns-in_err-tick-3-clause-outputs : goal.returns-in_err-tick-3-clause-outputs
returns-in_err-tick-3-clause-outputs c = on_ok_refused c.from_residual-in_err-tick-3.result _ c.from_residual-in_err-tick-3.ensures.0

pub returns-in_err-tick-3-clause-moment : goal.returns-in_err-tick-3-clause-moment
returns-in_err-tick-3-clause-moment c = on_ok_refused c.from_residual-in_err-tick-3.result _ c.from_residual-in_err-tick-3.ensures.0

pub returns-in_err-tick-3-clause-none : goal.returns-in_err-tick-3-clause-none
returns-in_err-tick-3-clause-none c = on_err c.from_residual-in_err-tick-3.result refl

pub returns-in_err-tick-3-clause-spent : goal.returns-in_err-tick-3-clause-spent
returns-in_err-tick-3-clause-spent c = ap (λ (e : SystemEntityState). e.spent) c.self.view_is

pub returns-in_err-tick-3-clause-congested : goal.returns-in_err-tick-3-clause-congested
returns-in_err-tick-3-clause-congested c = ap (λ (e : SystemEntityState). e.congested) c.self.view_is

pub returns-in_err-tick-3-clause-config : goal.returns-in_err-tick-3-clause-config
returns-in_err-tick-3-clause-config c = c.tick.ensures.config ∙ ap (λ (e : SystemEntityState). e.local.configuration) c.self.view_is

pub returns-in_err-append-clause-stands : goal.returns-in_err-append-clause-stands
returns-in_err-append-clause-stands c = on_ok_refused c.from_residual-in_err-append.result _ c.from_residual-in_err-append.ensures.0

pub returns-in_err-append-clause-outputs : goal.returns-in_err-append-clause-outputs
returns-in_err-append-clause-outputs c = on_ok_refused c.from_residual-in_err-append.result _ c.from_residual-in_err-append.ensures.0

pub returns-in_err-append-clause-moment : goal.returns-in_err-append-clause-moment
returns-in_err-append-clause-moment c = on_ok_refused c.from_residual-in_err-append.result _ c.from_residual-in_err-append.ensures.0

pub returns-in_err-append-clause-none : goal.returns-in_err-append-clause-none
returns-in_err-append-clause-none c = on_err c.from_residual-in_err-append.result c.in_err-append.ensures.items

pub returns-in_err-append-clause-spent : goal.returns-in_err-append-clause-spent
returns-in_err-append-clause-spent c = ap (λ (e : SystemEntityState). e.spent) c.self.view_is

pub returns-in_err-append-clause-congested : goal.returns-in_err-append-clause-congested
returns-in_err-append-clause-congested c = ap (λ (e : SystemEntityState). e.congested) c.self.view_is

pub returns-in_err-append-clause-config : goal.returns-in_err-append-clause-config
returns-in_err-append-clause-config c = c.tick.ensures.config ∙ ap (λ (e : SystemEntityState). e.local.configuration) c.self.view_is

pub returns-then-is_empty-clause-moment : goal.returns-then-is_empty-clause-moment
returns-then-is_empty-clause-moment c = refl

pub returns-then-is_empty-clause-none : goal.returns-then-is_empty-clause-none
returns-then-is_empty-clause-none c = tt

pub returns-then-is_empty-clause-spent : goal.returns-then-is_empty-clause-spent
returns-then-is_empty-clause-spent c = ap (λ (e : SystemEntityState). e.spent) c.self.view_is

pub returns-then-is_empty-clause-congested : goal.returns-then-is_empty-clause-congested
returns-then-is_empty-clause-congested c = ap (λ (e : SystemEntityState). e.congested) c.self.view_is

pub returns-then-is_empty-clause-config : goal.returns-then-is_empty-clause-config
returns-then-is_empty-clause-config c = c.tick.ensures.config ∙ ap (λ (e : SystemEntityState). e.local.configuration) c.self.view_is

pub returns-clause-moment : goal.returns-clause-moment
returns-clause-moment c = refl

pub returns-clause-none : goal.returns-clause-none
returns-clause-none c = tt

pub returns-clause-spent : goal.returns-clause-spent
returns-clause-spent c = ap (λ (e : SystemEntityState). e.spent) c.self.view_is

pub returns-clause-congested : goal.returns-clause-congested
returns-clause-congested c = ap (λ (e : SystemEntityState). e.congested) c.self.view_is

pub returns-clause-config : goal.returns-clause-config
returns-clause-config c = c.tick.ensures.config ∙ ap (λ (e : SystemEntityState). e.local.configuration) c.self.view_is
