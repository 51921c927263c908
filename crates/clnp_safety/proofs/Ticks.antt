-- A tick comes to each system in turn, or to one alone.
use Rattle.clnp_machine.proofs.ClnpBase.Lists.{AllByRecursion-implies}
use Rattle.std.proofs.Common.{◌≡◌, ◌∙◌, ◌≤◌, ℕ, List, [], ◌∷◌, ◌+◌, length, refl, sym, ap, arith}
use Rattle.std.specs.Prelude.{max, slice_get, Option, None, Some}
use Rattle.std.specs.List.{range_with_len}
use Rattle.std.proofs.lemmas.Option.{same_Some}
use Rattle.clnp_machine.specs.ScenarioPlan.Plan.{IsFit, Plan}
use Rattle.clnp_machine.specs.ClnpPlan.Journal.{Line}
use Rattle.clnp_machine.specs.Unit.{DataUnit}
use Rattle.clnp_machine.specs.System.{SystemState, MomentComes, then_does}
use Rattle.clnp_machine.specs.Local.{made_in, tick}
use Rattle.clnp_machine.specs.Esis.{forgets, says_hello}
use Rattle.clnp_machine.specs.Step.{effect_of, moment_comes, step}
use Rattle.clnp_machine.specs.Told.{NoteIsQuiet, TellsOnly}
use Rattle.clnp_machine.specs.ClnpNetwork.Run.{Entry}
use Rattle.clnp_machine.specs.ClnpNetwork.LabelledNetwork.{LabelledNetwork, goes_on, takes_effect, tick_alone, tick_each, tick_one, tick_system}
use Rattle.clnp_safety.specs.Invariant.{EachRests, SystemIsSound, WorldIsSound}
use Rattle.clnp_safety.specs.StepLaws.{StepLaws}
use Rattle.clnp_safety.proofs.Deeds.{IsHonest, quiet_action, reports_are_sound, reports_reply_nothing, reports_rest}
use Rattle.clnp_safety.proofs.Lines.{LineIs}
use Rattle.clnp_safety.proofs.Steps.{Keeps, keeps-nothing, keeps-followed_by, keeps-comes_to}
use Rattle.clnp_safety.proofs.Effects.{AnySystem, notes_are_steady, step_keeps}
use Rattle.clnp_safety.proofs.Hellos.{EffectIsSound, deed_is_sound, only_then, then_hellos}
use Rattle.clnp_safety.proofs.Ticking.{tick_is_sound, tick_reports}
use Rattle.clnp_safety.proofs.Moves.{IsSoundSince, sound_since_itself}
use Rattle.clnp_machine.proofs.Said.{says_known}
use Rattle.clnp_safety.proofs.Honest.{NoteIsSteady}

-- what comes of a moment
moment_is_sound : StepLaws → (plan : Plan) (past : List Entry) (w : LabelledNetwork) (name : List ℕ) (units : List DataUnit) (now place : ℕ) (s : SystemState)
    → s.moment ≤ now → SystemIsSound plan units place s → EachRests plan.limits.reuse units → EffectIsSound plan past w name units place (moment_comes s now)
moment_is_sound laws plan past w name units now place s later sound rest =
    let ticked = tick s now in
    let made = made_in ticked.actions in
    let are = tick_reports laws s now in
    let forgotten = forgets s.moment ticked.after in
    let only = only_then ticked.after forgotten says_hello (laws.hellos.forgotten ticked.after s.moment) (laws.hellos.said forgotten.after) in
    then_hellos plan past w name units place (effect_of ticked) (λ t. then_does (forgets s.moment t) says_hello)
    (deed_is_sound plan past w name units place laws ticked
    (record {
      after = reports_are_sound plan units made now place ticked.after (sym only.rest.moment ∙ laws.steps.moment s (MomentComes now)) are
          (tick_is_sound laws plan units now place s sound later);
      rest = reports_rest plan.limits.reuse now units made are rest;
      replies = reports_reply_nothing now made are;
      tells = AllByRecursion-implies (TellsOnly NoteIsQuiet) (TellsOnly (IsHonest plan past w name)) (quiet_action plan past w name) ticked.actions
          (laws.deeds.tick s now);
    }))
    only (says_known ticked.after)

module _ (laws : StepLaws) (plan : Plan) (fit : IsFit plan) (past : List Entry) (w : LabelledNetwork) (h : WorldIsSound plan past w) where
  -- what the worlds of a tick keep
  abbrev Sound : LabelledNetwork → Type 0
  Sound = IsSoundSince plan past w

  -- what the lines are
  abbrev Told : Line → Type 0
  Told = LineIs (NoteIsSteady plan past w)

  -- a later moment comes to a system
  system_ticks : (v : LabelledNetwork) (place : ℕ) (s : SystemState) (now : ℕ) → slice_get v.systems place ≡ Some s → s.moment ≤ now → Sound v
      → Keeps Sound Told (takes_effect v place (step s (MomentComes now)))
  system_ticks v place s now there later k =
      let it = k.stands.each place s there in
      let done : EffectIsSound plan past w s.configuration.name v.units place (moment_comes s now) =
      moment_is_sound laws plan past w s.configuration.name v.units now place s later it.stands.sound k.made.rest in
      step_keeps laws plan fit past w (NoteIsSteady plan past w) AnySystem AnySystem v place s (MomentComes now) it.stands tt tt done
      (λ other t apart any. any) tt
      (notes_are_steady laws plan fit past w s.configuration.name s (MomentComes now) done.notes tt) k

  -- the clock of the system at a place goes on
  goes_on_soundly : (v : LabelledNetwork) (place : ℕ) (found : Option SystemState) → slice_get v.systems place ≡ found → Sound v → Keeps Sound Told (goes_on v place found)
  goes_on_soundly v place None e k = keeps-nothing Sound Told v k
  goes_on_soundly v place (Some s) e k =
      keeps-comes_to Sound Told v place (MomentComes (s.moment + 1)) (slice_get v.systems place) (λ none. k)
      (λ t there.
      let same : s.moment ≡ t.moment = ap (λ (u : SystemState). u.moment) (same_Some s t (sym e ∙ there)) in
      system_ticks v place t (s.moment + 1) there (omega arith) k)

  each_ticks : (places : List ℕ) (v : LabelledNetwork) → Sound v → Keeps Sound Told (tick_each v places)
  each_ticks [] v k = keeps-nothing Sound Told v k
  each_ticks (place ∷ places) v k =
      keeps-followed_by Sound Told Sound (goes_on v place (slice_get v.systems place)) (λ u. tick_each u places)
      (goes_on_soundly v place (slice_get v.systems place) refl k) (each_ticks places)

  -- the world with another clock
  at_clock : (clock : ℕ) → Sound (record w { clock = clock })
  at_clock clock =
      let k = sound_since_itself plan past w h in
      record {
        made = k.made;
        front = k.front;
        stands = record { made = refl; copies = k.stands.copies; number = k.stands.number; each = k.stands.each; mtus = k.stands.mtus };
      }

  pub tick_one_is_sound : Keeps Sound Told (tick_one w)
  tick_one_is_sound = each_ticks (range_with_len 0 (length w.systems)) (record w { clock = w.clock + 1 }) (at_clock (w.clock + 1))

  tick_alone_is_sound : (place : ℕ) (found : Option SystemState) → slice_get w.systems place ≡ found → Keeps Sound Told (tick_alone w place found)
  tick_alone_is_sound place None e = keeps-nothing Sound Told w (sound_since_itself plan past w h)
  tick_alone_is_sound place (Some s) e =
      let clock = max w.clock (s.moment + 1) in goes_on_soundly (record w { clock = clock }) place (Some s) e (at_clock clock)

  -- one system's clock goes on alone
  pub tick_system_is_sound : (place : ℕ) → Keeps Sound Told (tick_system w place)
  tick_system_is_sound place = tick_alone_is_sound place (slice_get w.systems place) refl
