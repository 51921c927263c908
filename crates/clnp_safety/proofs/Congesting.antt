-- A router that is said to be congested, or no longer, is as sound as before.
use Rattle.std.proofs.Common.{◌≡◌, refl, ℕ, List, Bool}
use Rattle.std.specs.Prelude.{slice_get, Option, None, Some}
use Rattle.clnp_machine.specs.ClnpPlan.declared.note.Note.TheVariants.{Congest}
use Rattle.clnp_machine.specs.ScenarioPlan.Plan.{IsFit, Plan}
use Rattle.clnp_machine.specs.ClnpPlan.declared.scenario_plan.event.Move.{Move}
use Rattle.clnp_machine.specs.System.{SystemState, Input, IsCongested}
use Rattle.clnp_machine.specs.Step.{congest, step}
use Rattle.clnp_machine.specs.ClnpNetwork.LabelledNetwork.{LabelledNetwork, comes, comes_to, takes_effect}
use Rattle.clnp_machine.specs.ClnpNetwork.Run.{Entry}
use Rattle.clnp_safety.specs.Invariant.{SystemStands, WorldIsSound}
use Rattle.clnp_safety.specs.StepLaws.{StepLaws}
use Rattle.clnp_safety.proofs.Deeds.{like_is_sound, tells_soundly}
use Rattle.clnp_safety.proofs.Effects.{AnySystem, notes_are_steady, step_keeps}
use Rattle.clnp_safety.proofs.Hellos.{EffectIsSound, deed_is_sound}
use Rattle.clnp_safety.proofs.Lines.{LineIs}
use Rattle.clnp_safety.proofs.Moves.{IsSoundSince, MoveIsSound, kept_is_sound, nothing_is_sound, sound_since_itself}
use Rattle.clnp_safety.proofs.Steps.{Keeps}
use Rattle.clnp_safety.proofs.Honest.{NoteIsSteady}

module _ (laws : StepLaws) (plan : Plan) (fit : IsFit plan) (past : List Entry) (move : Move) (w : LabelledNetwork) (h : WorldIsSound plan past w) (place : ℕ) (on : Bool) where
  -- what comes
  abbrev input : Input
  input = IsCongested on

  module _ (s : SystemState) (there : slice_get w.systems place ≡ Some s) where
    it : SystemStands plan past w.units w.units place s
    it = h.systems.each place s there

    -- the system then
    abbrev later : SystemState
    later = record s { congested = on }

    done : EffectIsSound plan past w s.configuration.name w.units place (step s input)
    done =
        deed_is_sound plan past w s.configuration.name w.units place laws (congest s on)
        (tells_soundly plan past w s.configuration.name w.units place later (Congest on)
        (record {
          sound = like_is_sound plan w.units place s later
              (record { place = refl; configuration = refl; attached = refl; hold = refl; moment = refl; identifiers = refl; buffers = refl; known = λ known. known }) it.sound;
          rest = h.made.rest;
        })
        tt)

    taken_soundly : Keeps (IsSoundSince plan past w) (LineIs (NoteIsSteady plan past w)) (takes_effect w place (step s input))
    taken_soundly =
        step_keeps laws plan fit past w (NoteIsSteady plan past w) AnySystem AnySystem w place s input it tt tt done (λ other t apart any. any) tt
        (notes_are_steady laws plan fit past w s.configuration.name s input done.notes tt)
        (sound_since_itself plan past w h)

  congested_at : (found : Option SystemState) → slice_get w.systems place ≡ found → MoveIsSound plan past move w (comes_to w place input found)
  congested_at None e = nothing_is_sound plan past move w h
  congested_at (Some s) e = kept_is_sound plan past move w (takes_effect w place (step s input)) (taken_soundly s e)

  -- a system is congested, or no longer
  pub congested_is_sound : MoveIsSound plan past move w (comes w place input)
  congested_is_sound = congested_at (slice_get w.systems place) refl
