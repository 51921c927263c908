-- Identifiers rest, whatever the moves of whatever plan: one that is drawn for a unit was not used for long.
use Rattle.clnp_machine.proofs.ClnpBase.Lists.{AllByRecursion-any, AllByRecursion-contains, AllByRecursion-implies, set_each}
use Rattle.std.proofs.Common.{◌≡◌, ◌≢◌, ◌∙◌, ◌≤◌, ◌⊎◌, refl, sym, ap, subst, ℕ, inl, inr, List, [], ◌++◌, Some, arith}
use Rattle.std.specs.Prelude.{slice_get}
use Rattle.std.specs.List.{AllByRecursion}
use Rattle.std.proofs.lemmas.List.{append-nil}
use Rattle.std.proofs.lemmas.List.Elements.{Contains-append_cases}
use Rattle.clnp_machine.specs.ScenarioPlan.Plan.{Plan}
use Rattle.clnp_machine.specs.ClnpPlan.declared.scenario_plan.event.Move.{Move}
use Rattle.clnp_machine.specs.Identifiers.{Identifiers, restarted}
use Rattle.clnp_machine.specs.Unit.{DataUnit, DeclaredAt}
use Rattle.clnp_machine.specs.System.{SystemState, Input, MomentComes, IsRestarted, Output, Transmits, SendsEsis, Notes, Effect}
use Rattle.clnp_machine.specs.Step.{step}
use Rattle.clnp_machine.specs.EveryStep.{IsFresh, RestartsNothing, moment_after}
use Rattle.clnp_machine.specs.ClnpNetwork.LabelledNetwork.{LabelledNetwork, put_out, takes_effect, with_effect, first_world}
use Rattle.clnp_machine.specs.ClnpNetwork.Run.{world_after}
use Rattle.clnp_machine.specs.ClnpNetwork.Safe.{IdentifiersRest}
use Rattle.clnp_safety.specs.Invariant.{EachRests}
use Rattle.clnp_safety.specs.StepLaws.{StepLaws}
use Rattle.clnp_safety.proofs.Drawing.{step_draws}
use Rattle.clnp_safety.proofs.Draws.{AreSound, IsMadeNow, rest_after, sound_after}
use Rattle.clnp_safety.proofs.EveryMove.{AnyFrame, AnyInput, IsOfNow, any_events, keeps-moves}
use Rattle.clnp_safety.proofs.Lines.{AnyLine, any_line_changes, any_line_is_fine}
use Rattle.clnp_safety.proofs.Opens.{opened}
use Rattle.clnp_safety.proofs.Restarting.{no_uses}
use Rattle.clnp_safety.proofs.Steps.{Keeps, keeps-put_all_out}

-- the system stands at a place, and its identifiers are sound
record HasSound (reuse place : ℕ) (units : List DataUnit) (s : SystemState) : Type 0 where
  stands_at : s.place ≡ place
  identifiers : AreSound reuse s.moment place units s.identifiers

-- units rest one behind another, and each system has sound identifiers
record UnitsRest (reuse : ℕ) (w : LabelledNetwork) : Type 0 where
  rest : EachRests reuse w.units
  each : (place : ℕ) (s : SystemState) → slice_get w.systems place ≡ Some s → HasSound reuse place w.units s

-- after a restart all units rest in the quiet time
restarted_sound : (reuse now place : ℕ) (units : List DataUnit) (ids : Identifiers) → AreSound reuse now place units ids
    → AreSound reuse now place units (restarted now ids)
restarted_sound reuse now place units ids sound = record {
  reuse_is = sound.reuse_is;
  uses = no_uses now;
  accounted = λ u has maker.
      let made = (sound.accounted u has maker).made in
      record { made = made; used = λ identifier identified. inr (omega arith) };
}

-- Other systems stay as they are.
other_sound : (reuse place other : ℕ) (units made : List DataUnit) (moment : ℕ) (t : SystemState) → AllByRecursion (IsMadeNow moment place) made
    → other ≢ place → HasSound reuse other units t → HasSound reuse other (units ++ made) t
other_sound reuse place other units made moment t new apart h = record {
  stands_at = h.stands_at;
  identifiers = record {
    reuse_is = h.identifiers.reuse_is;
    uses = h.identifiers.uses;
    accounted = λ u has maker. elim (Contains-append_cases units made u has) [
      | inl there ↦ h.identifiers.accounted u there maker
      | inr here ↦ (
          let same : DeclaredAt place ≡ DeclaredAt other = sym (AllByRecursion-contains (IsMadeNow moment place) made u here new).maker ∙ maker in
          let one : other ≡ place = cc in
          absurd (apart one))
    ];
  };
}

-- nobody restarts a system, or it is restarted
steady_or_restarted : (input : Input) → RestartsNothing input ⊎ (input ≡ IsRestarted)
steady_or_restarted IsRestarted = inr refl
steady_or_restarted _ = inl tt

-- the moment that comes to a system is its next one, and else it keeps its own
moment_comes : (w : LabelledNetwork) (s : SystemState) (input : Input) → IsOfNow w s input → s.moment ≤ moment_after s input
moment_comes w s (MomentComes now) at = omega arith
moment_comes w s _ at = omega arith

put_out_rests : (reuse : ℕ) (system : SystemState) (output : Output) (v : LabelledNetwork) → UnitsRest reuse v → Keeps (UnitsRest reuse) AnyLine (put_out system v output)
put_out_rests reuse system (Notes note) v k = record { world = k; lines = (tt, tt) }
put_out_rests reuse system (Transmits port target packet) v k = record { world = record { rest = k.rest; each = k.each }; lines = (tt, tt) }
put_out_rests reuse system (SendsEsis port target value) v k = record { world = record { rest = k.rest; each = k.each }; lines = (tt, tt) }

-- the identifiers are sound after a step at a moment, and the units rest
record EffectRests (reuse place : ℕ) (units : List DataUnit) (now : ℕ) (effect : Effect) : Type 0 where
  identifiers : AreSound reuse now place (units ++ effect.units) effect.after.identifiers
  rest : EachRests reuse (units ++ effect.units)

module _ (laws : StepLaws) (reuse : ℕ) (w : LabelledNetwork) (place : ℕ) (s : SystemState) (input : Input) (there : slice_get w.systems place ≡ Some s)
    (at : IsOfNow w s input) (k : UnitsRest reuse w) where
  abbrev effect : Effect
  effect = step s input

  abbrev now : ℕ
  now = moment_after s input

  it : HasSound reuse place w.units s
  it = k.each place s there

  comes : s.moment ≤ now
  comes = moment_comes w s input at

  new : AllByRecursion (IsMadeNow now place) effect.units
  new =
      AllByRecursion-implies (IsFresh s now) (IsMadeNow now place) (λ u is. record { maker = is.maker ∙ ap DeclaredAt it.stands_at; made = is.made }) effect.units
      (laws.steps.fresh s input)

  step_rests : RestartsNothing input ⊎ (input ≡ IsRestarted) → EffectRests reuse place w.units now effect
  step_rests (inl steady) =
      let draws = step_draws laws s input steady in
      record {
        identifiers = sound_after reuse s.moment now place w.units s.identifiers comes it.identifiers effect.after.identifiers effect.units new draws;
        rest = rest_after reuse s.moment now place w.units s.identifiers comes it.identifiers effect.after.identifiers effect.units new k.rest draws;
      }
  step_rests (inr is) =
      subst (λ i. EffectRests reuse place w.units (moment_after s i) (step s i)) (sym is)
      (record {
        identifiers = subst (λ us. AreSound reuse s.moment place us (restarted s.moment s.identifiers)) (sym (append-nil w.units))
            (restarted_sound reuse s.moment place w.units s.identifiers it.identifiers);
        rest = subst (EachRests reuse) (sym (append-nil w.units)) k.rest;
      })

  keeps-resting : Keeps (UnitsRest reuse) AnyLine (takes_effect w place effect)
  keeps-resting =
      let done = step_rests (steady_or_restarted input) in
      let moment = laws.steps.moment s input in
      keeps-put_all_out (UnitsRest reuse) AnyLine effect.after effect.outputs
      (AllByRecursion-any (λ output. (v : LabelledNetwork) → UnitsRest reuse v → Keeps (UnitsRest reuse) AnyLine (put_out effect.after v output))
      (put_out_rests reuse effect.after) effect.outputs)
      (with_effect w place effect)
      (record {
        rest = done.rest;
        each = set_each (λ other t. HasSound reuse other w.units t) (λ other t. HasSound reuse other (w.units ++ effect.units) t) w.systems place effect.after k.each
            (λ other t apart h. other_sound reuse place other w.units effect.units now t new apart h)
            (record {
              stands_at = (laws.steps.itself s input).place ∙ it.stands_at;
              identifiers = subst (λ n. AreSound reuse n place (w.units ++ effect.units) effect.after.identifiers) (sym moment) done.identifiers;
            });
      })

first_rests : (plan : Plan) → UnitsRest plan.limits.reuse (first_world plan)
first_rests plan = record {
  rest = λ i j d below within. absurd (omega arith);
  each = λ place s there.
      let here = opened plan.limits 0 plan.systems place place s (omega arith) there in
      subst (HasSound plan.limits.reuse place []) here.state
      (record {
        stands_at = refl;
        identifiers = record { reuse_is = refl; uses = no_uses 0; accounted = λ u has. let none = has.1 in absurd (omega arith) };
      });
}

pub identifiers_rest : StepLaws → (plan : Plan) (moves : List Move) → IdentifiersRest plan.limits.reuse (world_after plan (first_world plan) moves)
identifiers_rest laws plan moves =
    let reuse : ℕ = plan.limits.reuse in
    (keeps-moves (λ w. AnyInput) AnyFrame (UnitsRest reuse) AnyLine
    (record {
      steps = λ w place s input there any at k. keeps-resting laws reuse w place s input there at k;
      frames = λ w at copy e k v follows s. tt;
      moments = λ w now. tt;
      restarts = λ w. tt;
      congestion = λ w on. tt;
      cursor = λ w next k. record { rest = k.rest; each = k.each };
      clock = λ w clock k. record { rest = k.rest; each = k.each };
      outside = λ w subnet sender target octets any k. record { rest = k.rest; each = k.each };
      sizes = λ w subnet mtu takes k. record { rest = k.rest; each = k.each };
      injected = λ now copy subnet sender target. tt;
      fine = any_line_is_fine;
      changing = any_line_changes;
    })
    plan (λ w. any_events plan.events) moves (first_world plan) (first_rests plan)).rest
