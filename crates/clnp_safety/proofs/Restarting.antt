-- A restarted system is sound: it is quiet as long as an identifier of its units may rest, and waits for no answer.
use Rattle.clnp_machine.proofs.ClnpBase.Lists.{AllByRecursion-implies, pair_at}
use Rattle.std.proofs.Common.{◌≡◌, ◌≢◌, ◌⊎◌, ◌∙◌, ◌<◌, refl, sym, ap, subst, ℕ, inl, inr, List, [], ◌++◌, length, map, get_or, Option, None, Some, option_map, arith}
use Rattle.std.specs.Prelude.{slice_get}
use Rattle.std.proofs.lemmas.Bool.{cases_eq, cases_order}
use Rattle.std.proofs.lemmas.List.{append-nil}
use Rattle.std.proofs.lemmas.Option.{get_or_from_slice_get, slice_get-map, slice_get_within}
use Rattle.clnp_machine.specs.ClnpPlan.Configuration.{AreDistinct, SystemConfiguration}
use Rattle.clnp_machine.specs.ClnpPlan.Journal.{Line, Noted}
use Rattle.clnp_machine.specs.ClnpPlan.declared.note.Note.{Note}
use Rattle.clnp_machine.specs.ClnpPlan.declared.note.Note.TheVariants as note
use Rattle.clnp_machine.specs.ScenarioPlan.Plan.{IsFit, Plan}
use Rattle.clnp_machine.specs.ClnpPlan.declared.scenario_plan.event.Move.{Move}
use Rattle.clnp_machine.specs.Unit.{DataUnit}
use Rattle.clnp_machine.specs.System.{SystemState, IsRestarted}
use Rattle.clnp_machine.specs.Step.{restart, step}
use Rattle.clnp_machine.specs.ClnpNetwork.LabelledNetwork.{LabelledNetwork, comes_to, takes_effect}
use Rattle.clnp_machine.specs.ClnpNetwork.Run.{Entry}
use Rattle.clnp_machine.specs.ClnpNetwork.Safe.{SaysNoRestart}
use Rattle.clnp_safety.specs.Invariant.{AreUsesUntil, EachRests, SystemIsSound, WorldIsSound}
use Rattle.clnp_safety.specs.StepLaws.{StepLaws}
use Rattle.clnp_safety.proofs.Effects.{AnySystem, IsSoundWith, StandsWith, step_keeps}
use Rattle.clnp_safety.proofs.Lines.{LineIs, lines_are}
use Rattle.clnp_safety.proofs.Moves.{IsPendingStill, MoveIsSound, moved_is_sound, nothing_is_sound, sound_since, sound_since_itself}
use Rattle.clnp_safety.proofs.Steps.{Keeps}
use Rattle.clnp_safety.proofs.Honest.{NoteIsHonest}

-- a system that was restarted has no uses
pub no_uses : (now : ℕ) → AreUsesUntil now []
no_uses now = record { until_now = tt; in_order = λ i j d below within. absurd (omega arith) }

restart_is_sound : (plan : Plan) (units : List DataUnit) (place : ℕ) (s : SystemState) → SystemIsSound plan units place s
    → SystemIsSound plan units place (restart s).after
restart_is_sound plan units place s sound = record {
  stands_at = sound.stands_at;
  declared = sound.declared;
  hold = sound.hold;
  reuse = sound.reuse;
  uses = no_uses s.moment;
  accounted = λ u within maker.
      let made = (sound.accounted u within maker).made in
      record { made = made; used = λ identifier is. inr (omega arith) };
  buffers = tt;
  not_due = tt;
  not_whole = tt;
  budget = omega arith;
  known = tt;
  attached = sound.attached;
  ports = sound.ports;
}

-- A name belongs to one system.

abbrev name_of : SystemConfiguration → List ℕ
name_of system = system.name

name_at : (systems : List SystemConfiguration) (place : ℕ) (system : SystemConfiguration) → slice_get systems place ≡ Some system
    → get_or (map name_of systems) place system.name ≡ system.name
name_at systems place system there =
    get_or_from_slice_get (map name_of systems) place system.name system.name (slice_get-map name_of systems place ∙ ap (option_map name_of) there)

within_names : (systems : List SystemConfiguration) (place : ℕ) (system : SystemConfiguration) → slice_get systems place ≡ Some system
    → place < length (map name_of systems)
within_names systems place system there =
    slice_get_within (map name_of systems) place system.name (slice_get-map name_of systems place ∙ ap (option_map name_of) there)

names_differ : (systems : List SystemConfiguration) (place other : ℕ) (first second : SystemConfiguration) → AreDistinct (map name_of systems)
    → slice_get systems place ≡ Some first → slice_get systems other ≡ Some second → other ≢ place → first.name ≢ second.name
names_differ systems place other first second distinct at there apart same =
    elim (cases_order place other) [
      | inl one ↦ apart (sym one)
      | inr (inl before) ↦
          pair_at (λ a b. a ≢ b) (map name_of systems) place other first.name second.name distinct before (within_names systems other second there)
          (name_at systems place first at) (name_at systems other second there) same
      | inr (inr later) ↦
          pair_at (λ a b. a ≢ b) (map name_of systems) other place second.name first.name distinct (omega arith) (within_names systems place first at)
          (name_at systems other second there) (name_at systems place first at) (sym same)
    ]

module _ (laws : StepLaws) (plan : Plan) (fit : IsFit plan) (past : List Entry) (move : Move) (w : LabelledNetwork) (h : WorldIsSound plan past w) (place : ℕ) where
  -- the system at the place waits for no answer
  abbrev IsQuietThere : (other : ℕ) → SystemState → Type 0
  IsQuietThere other t = other ≡ place → t.pending ≡ []

  module _ (s : SystemState) (there : slice_get w.systems place ≡ Some s) where
    -- a note is honest, and that of this system
    record IsNoteOf (name : List ℕ) (note : Note) : Type 0 where
      honest : NoteIsHonest plan past w name note
      named : name ≡ s.configuration.name

    kept : Keeps (IsSoundWith plan past w IsQuietThere) (LineIs IsNoteOf) (takes_effect w place (step s IsRestarted))
    kept =
        let it = h.systems.each place s there in
        let same : (w.units ++ []) ≡ w.units = append-nil w.units in
        step_keeps laws plan fit past w IsNoteOf AnySystem IsQuietThere w place s IsRestarted it tt tt
        (record {
          after = subst (λ us. SystemIsSound plan us place (step s IsRestarted).after) (sym same) (restart_is_sound plan w.units place s it.sound);
          rest = subst (EachRests plan.limits.reuse) (sym same) h.made.rest;
          replies = tt;
          notes = (tt, tt);
        })
        (λ other t apart any here. absurd (apart here)) (λ here. laws.steps.forgotten s)
        (record { honest = tt; named = refl }, tt) (sound_since_itself plan past w h)

    -- no line says that another system was restarted
    says_of_no_other : (name : List ℕ) → s.configuration.name ≢ name → (line : Line) → LineIs IsNoteOf line → SaysNoRestart name line
    says_of_no_other name other (Noted now restarted note.Restart) is = λ e. other (sym is.named ∙ e)
    says_of_no_other name other _ is = tt

    soundly_after : MoveIsSound plan past move w (takes_effect w place (step s IsRestarted))
    soundly_after =
        let taken = takes_effect w place (step s IsRestarted) in
        let k = kept.world in
        moved_is_sound plan past move w taken
        (record {
          world = sound_since plan past w taken.world IsQuietThere k;
          lines = lines_are IsNoteOf (NoteIsHonest plan past w) (λ name note is. is.honest) taken.lines kept.lines;
        })
        (λ other t at. still other t (k.stands.each other t at) (cases_eq other place))
      where
        still : (other : ℕ) (t : SystemState)
            → StandsWith plan past w.units IsQuietThere (takes_effect w place (step s IsRestarted)).world.units other t
            → (other ≡ place) ⊎ (other ≢ place) → IsPendingStill plan past move w (takes_effect w place (step s IsRestarted)) t
        still other t is (inl here) = inl (is.also here)
        still other t is (inr apart) =
            inr (AllByRecursion-implies (LineIs IsNoteOf) (SaysNoRestart t.configuration.name)
            (says_of_no_other t.configuration.name
            (names_differ plan.systems place other s.configuration t.configuration fit.system_names (h.systems.each place s there).sound.declared is.stands.sound.declared apart))
            (takes_effect w place (step s IsRestarted)).lines kept.lines)

  restarted_at : (found : Option SystemState) → slice_get w.systems place ≡ found → MoveIsSound plan past move w (comes_to w place IsRestarted found)
  restarted_at None e = nothing_is_sound plan past move w h
  restarted_at (Some s) e = soundly_after s e

  -- a system is restarted
  pub restarted_is_sound : MoveIsSound plan past move w (comes_to w place IsRestarted (slice_get w.systems place))
  restarted_is_sound = restarted_at (slice_get w.systems place) refl
