-- A system is asked to send, or for an echo: a unit is made, or refused, and nothing is handed up.
use Rattle.clnp_machine.proofs.ClnpBase.Lists.{AllByRecursion-both, AllByRecursion-contains, AllByRecursion-implies}
use Rattle.std.proofs.Common.{◌≡◌, ◌≢◌, ◌∙◌, ℕ, inl, inr, List, [], ◌∷◌, ◌++◌, length, true, refl, sym, ap, subst, arith, Contains}
use Rattle.std.specs.Prelude.{slice_get, Option, None, Some}
use Rattle.std.specs.List.{AllByRecursion}
use Rattle.std.proofs.lemmas.List.Elements.{Contains-append_right}
use Rattle.hex.specs.Hex.{IsBytes}
use Rattle.clnp_machine.specs.Pdus.declared.pdu_header.kind.Kind.{Kind}
use Rattle.clnp_machine.specs.Pdus.declared.pdu_header.kind.Kind.TheVariants.{Dt, Erq, Erp}
use Rattle.clnp_machine.specs.ClnpPlan.Configuration.{SystemConfiguration}
use Rattle.clnp_machine.specs.ClnpPlan.Journal.{Line, Noted}
use Rattle.clnp_machine.specs.ClnpPlan.declared.ask.Ask.{Ask}
use Rattle.clnp_machine.specs.ClnpPlan.declared.config.Role.{Role}
use Rattle.clnp_machine.specs.ClnpPlan.declared.config.Role.TheVariants.{Host, Router}
use Rattle.clnp_machine.specs.ClnpPlan.declared.note.Note.{Note}
use Rattle.clnp_machine.specs.ClnpPlan.declared.note.Note.TheVariants.{Sent}
use Rattle.clnp_machine.specs.ScenarioPlan.Plan.{Plan, IsFit}
use Rattle.clnp_machine.specs.ClnpPlan.declared.scenario_plan.event.Move.{Move}
use Rattle.clnp_machine.specs.Unit.{DataUnit, DeclaredAt}
use Rattle.clnp_machine.specs.System.{SystemState, Input, AsksToSend, AsksForEcho, Effect}
use Rattle.clnp_machine.specs.Local.{echo_ask, make, makes, refusal, sent_note, unit_of, unless_refused}
use Rattle.clnp_machine.specs.Step.{effect_of, step}
use Rattle.clnp_machine.specs.EveryStep.{IsFair, IsFresh, IsMadeFor, IsNoRestart, NotesOnly, RestartsNothing, WasPendingOrMade, moment_after}
use Rattle.clnp_machine.specs.Told.{NoteIsQuiet}
use Rattle.clnp_machine.specs.ClnpNetwork.LabelledNetwork.{LabelledNetwork, Step, takes_effect, comes, comes_to, asks_role, asks_system, asks}
use Rattle.clnp_machine.specs.ClnpNetwork.Run.{Entry}
use Rattle.clnp_machine.specs.ClnpNetwork.Safe.{IsSend, NoRefusal, SaysNoRestart, SaysRequested}
use Rattle.clnp_safety.specs.Invariant.{IsMadeOn, IsPending, SystemStands, UnitIsSound, UnitsAreSound, WorldIsSound}
use Rattle.clnp_safety.specs.StepLaws.{StepLaws}
use Rattle.clnp_safety.proofs.Past.{pending_later, requested_last, sent_last, units_later}
use Rattle.clnp_safety.proofs.Deeds.{make_soundly}
use Rattle.clnp_safety.proofs.Hellos.{EffectIsSound, deed_is_sound}
use Rattle.clnp_safety.proofs.Lines.{LineIs, lines_are, lines_say_no_restart, quiet_lines_refuse_nothing, sent_alike}
use Rattle.clnp_safety.proofs.Outputs.{takes_effect_notes, takes_effect_stands}
use Rattle.clnp_safety.proofs.Told.{outputs_note}
use Rattle.clnp_safety.proofs.Units.{units_with}
use Rattle.clnp_safety.proofs.Effects.{AnySystem, StandsWith, fresh_is_sound, notes_are_steady, others_stand, step_gives_soundly}
use Rattle.clnp_safety.proofs.Moves.{MoveIsSound, nothing_is_sound, sound_since_itself, stands_soundly, stay_pending}
use Rattle.clnp_safety.proofs.Honest.{ComesSoundly, NoteIsHonest, NoteIsSteady}

-- the step by which a unit is sent
abbrev pub sending : LabelledNetwork → ℕ → SystemState → DataUnit → Step
sending w place s u = takes_effect w place (effect_of (makes s u))

pub lines_are_quiet : StepLaws → (w : LabelledNetwork) (place : ℕ) (s : SystemState) (u : DataUnit) → AllByRecursion (LineIs (λ name. NoteIsQuiet)) (sending w place s u).lines
lines_are_quiet laws w place s u =
    takes_effect_notes NoteIsQuiet w place (effect_of (makes s u))
    (outputs_note laws NoteIsQuiet (λ note h. h) (makes s u).after (makes s u).actions (tt, (tt, tt)))

-- what lines say of a unit that was asked for and made: nothing was refused, and it was sent
record IsAskedIn (now : ℕ) (name : List ℕ) (lines : List Line) (u : DataUnit) : Type 0 where
  unrefused : NoRefusal lines
  said : Contains lines (Noted now name (sent_note u))

asked_in : StepLaws → (w : LabelledNetwork) (place : ℕ) (s : SystemState) (u : DataUnit) (refused : Option Note)
    → AllByRecursion (IsAskedIn s.moment s.configuration.name (takes_effect w place (effect_of (unless_refused refused s u))).lines)
    (effect_of (unless_refused refused s u)).units
asked_in laws w place s u None = (
  record { unrefused = quiet_lines_refuse_nothing (sending w place s u).lines (lines_are_quiet laws w place s u); said = (0, omega arith, refl) },
  tt,
)
asked_in laws w place s u (Some note) = tt

-- that a request was sent says that it was made
says_requested : (now : ℕ) (name : List ℕ) (u : DataUnit) → u.kind ≡ Erq → SaysRequested name u.number u.source u.destination (Noted now name (sent_note u))
says_requested now name u erq =
    subst (λ kind. SaysRequested name u.number u.source u.destination (Noted now name (Sent kind u.number u.identifier u.source u.destination (length u.octets))))
    (sym erq) (refl, refl, refl, refl)

module _ (laws : StepLaws) (plan : Plan) (fit : IsFit plan) (past : List Entry) (move : Move) (w : LabelledNetwork) (h : WorldIsSound plan past w) where
  module _ (place : ℕ) (s : SystemState) (there : slice_get w.systems place ≡ Some s) (kind : Kind) (from to octets : List ℕ) (ask : Ask) (input : Input)
      (is : effect_of (make s kind from to octets ask) ≡ step s input) (fair : IsFair input)
      (comes : ComesSoundly w.units input) (steady : RestartsNothing input)
      (no_reply : kind ≡ Erp → ⊥) where
    abbrev effect : Effect
    effect = step s input

    abbrev taken : Step
    taken = takes_effect w place effect

    -- the entry of the move, and all entries and units then
    abbrev entry : Entry
    entry = record { move = move; lines = taken.lines }

    abbrev then : List Entry
    then = past ++ entry ∷ []

    abbrev later : List DataUnit
    later = w.units ++ effect.units

    it : SystemStands plan past w.units w.units place s
    it = h.systems.each place s there

    done : EffectIsSound plan past w s.configuration.name w.units place effect
    done =
        subst (EffectIsSound plan past w s.configuration.name w.units place) is
        (deed_is_sound plan past w s.configuration.name w.units place laws (make s kind from to octets ask)
        (make_soundly plan past w s.configuration.name w.units place laws s kind from to octets ask (record { sound = it.sound; rest = h.made.rest })
        (λ erp. absurd (no_reply erp))))

    asked : AllByRecursion (IsAskedIn s.moment s.configuration.name taken.lines) effect.units
    asked =
        subst (λ (e : Effect). AllByRecursion (IsAskedIn s.moment s.configuration.name (takes_effect w place e).lines) e.units) is
        (asked_in laws w place s (unit_of s kind from to octets ask) (refusal s (unit_of s kind from to octets ask)))

    -- no line says that a system was restarted
    quiet : (name : List ℕ) → AllByRecursion (SaysNoRestart name) taken.lines
    quiet name = lines_say_no_restart name taken.lines (takes_effect_notes IsNoRestart w place effect (laws.steps.no_restart s input steady))

    module _ (founded : (u : DataUnit) → IsMadeFor input u → NoRefusal taken.lines → IsMadeOn plan then w.units u.kind u) where
      new_units : AllByRecursion (UnitIsSound plan then w.units) effect.units
      new_units =
          AllByRecursion-both (IsFresh s (moment_after s input)) (λ u. IsMadeOn plan then w.units u.kind u) (UnitIsSound plan then w.units)
          (fresh_is_sound plan then w.units place s it.sound (moment_after s input)) effect.units (laws.steps.fresh s input)
          (AllByRecursion-both (IsMadeFor input) (IsAskedIn s.moment s.configuration.name taken.lines) (λ u. IsMadeOn plan then w.units u.kind u)
          (λ u for was. founded u for was.unrefused) effect.units (laws.steps.made_for s input) asked)

      units_are_sound : UnitsAreSound plan then later
      units_are_sound = units_with plan then w.units effect.units (units_later plan past (entry ∷ []) w.units h.made) done.rest new_units

      others : (other : ℕ) (t : SystemState) → other ≢ place → StandsWith plan past w.units AnySystem w.units other t
          → StandsWith plan then later AnySystem later other t
      others other t apart was = record {
        stands = record {
          sound = (others_stand laws plan fit past w.units place s it.sound input comes w.units other t apart was.stands).sound;
          pending = stay_pending past entry w.units effect.units other t.configuration.name t.pending (quiet t.configuration.name) was.stands.pending;
        };
        also = was.also;
      }

      -- a request that is made now
      requested : (request : DataUnit) → Contains effect.units request → request.kind ≡ Erq → IsPending then later place s.configuration.name request
      requested request made erq =
          let was = AllByRecursion-contains (IsAskedIn s.moment s.configuration.name taken.lines) effect.units request made asked in
          let fresh = AllByRecursion-contains (IsFresh s (moment_after s input)) effect.units request made (laws.steps.fresh s input) in
          record {
            made = Contains-append_right w.units effect.units request made;
            maker = fresh.maker ∙ ap DeclaredAt it.sound.stands_at;
            kind = erq;
            since = requested_last s.configuration.name request.number request.source request.destination past entry
                (Noted s.moment s.configuration.name (sent_note request)) was.said (says_requested s.moment s.configuration.name request erq);
          }

      pending : AllByRecursion (IsPending then later place effect.after.configuration.name) effect.after.pending
      pending =
          subst (λ (c : SystemConfiguration). AllByRecursion (IsPending then later place c.name) effect.after.pending) (sym (laws.steps.itself s input).configuration)
          (AllByRecursion-implies (WasPendingOrMade s effect) (IsPending then later place s.configuration.name)
          (λ request was.
          elim was [
            | inl before ↦
                pending_later past entry w.units effect.units place s.configuration.name (quiet s.configuration.name) request
                (AllByRecursion-contains (IsPending past w.units place s.configuration.name) s.pending request before it.pending)
            | inr made ↦ requested request made.0 made.1
          ])
          effect.after.pending (laws.steps.pending s input))

      soundly : MoveIsSound plan past move w taken
      soundly =
          let notes = subst (λ (c : SystemConfiguration). AllByRecursion (NotesOnly (NoteIsSteady plan past w c.name)) effect.outputs)
          (sym (laws.steps.itself s input).configuration)
          (notes_are_steady laws plan fit past w s.configuration.name s input done.notes steady) in
          let kept = takes_effect_stands (length plan.systems) (NoteIsSteady plan past w) w.units (StandsWith plan past w.units AnySystem w.units)
          (StandsWith plan then later AnySystem later) w place effect others
          (record { stands = record { sound = done.after; pending = pending }; also = tt })
          done.after.attached.addressed
          (step_gives_soundly laws plan fit past w.units place s it.sound input comes (NoteIsSteady plan past w effect.after.configuration.name) fair notes)
          (sound_since_itself plan past w h).stands in
          record {
            world = stands_soundly plan then later taken.world units_are_sound kept.world;
            lines = lines_are (NoteIsSteady plan past w) (NoteIsHonest plan past w) (λ name note is. is.honest) taken.lines kept.lines;
          }

  sent_soundly : (place : ℕ) (from to octets : List ℕ) (ask : Ask) → IsFair (AsksToSend from to octets ask) → IsSend plan move from to octets
      → (found : Option SystemState) → slice_get w.systems place ≡ found → MoveIsSound plan past move w (comes_to w place (AsksToSend from to octets ask) found)
  sent_soundly place from to octets ask fair sends None e = nothing_is_sound plan past move w h
  sent_soundly place from to octets ask fair sends (Some s) e =
      let taken = takes_effect w place (step s (AsksToSend from to octets ask)) in
      soundly place s e Dt from to octets ask (AsksToSend from to octets ask) refl fair tt tt
      (λ reply. cc)
      (λ u for unrefused.
      let entry : Entry = record { move = move; lines = taken.lines } in
      let then : List Entry = past ++ entry ∷ [] in
      subst (λ kind. IsMadeOn plan then w.units kind u) (sym for.0)
      (sent_alike plan then from to octets u.source u.destination u.octets (sym for.1) (sym for.2) (sym for.3)
      (sent_last plan past entry from to octets sends unrefused)))

  -- nobody asks a router to send
  sent_by_role : (role : Role) (place : ℕ) (from to octets : List ℕ) (ask : Ask) → IsFair (AsksToSend from to octets ask) → IsSend plan move from to octets
      → MoveIsSound plan past move w (asks_role role w place (AsksToSend from to octets ask))
  sent_by_role Host place from to octets ask fair sends = sent_soundly place from to octets ask fair sends (slice_get w.systems place) refl
  sent_by_role Router place from to octets ask fair sends = nothing_is_sound plan past move w h

  sent_at : (place : ℕ) (from to octets : List ℕ) (ask : Ask) → IsFair (AsksToSend from to octets ask) → (found : Option SystemState) → IsSend plan move from to octets
      → MoveIsSound plan past move w (asks_system w place (AsksToSend from to octets ask) found)
  sent_at place from to octets ask fair None sends = nothing_is_sound plan past move w h
  sent_at place from to octets ask fair (Some s) sends = sent_by_role s.configuration.role place from to octets ask fair sends

  pub system_is_asked : (place : ℕ) (from to octets : List ℕ) (ask : Ask) → IsFair (AsksToSend from to octets ask) → IsSend plan move from to octets
      → MoveIsSound plan past move w (asks w place (AsksToSend from to octets ask))
  system_is_asked place from to octets ask fair sends = sent_at place from to octets ask fair (slice_get w.systems place) sends

  echo_soundly : (place : ℕ) (from to octets : List ℕ) → IsFair (AsksForEcho from to octets) → IsBytes octets → (found : Option SystemState) → slice_get w.systems place ≡ found
      → MoveIsSound plan past move w (comes_to w place (AsksForEcho from to octets) found)
  echo_soundly place from to octets fair bytes None e = nothing_is_sound plan past move w h
  echo_soundly place from to octets fair bytes (Some s) e =
      let taken = takes_effect w place (step s (AsksForEcho from to octets)) in
      soundly place s e Erq from to octets (echo_ask s from to (length octets) true) (AsksForEcho from to octets) refl fair tt tt
      (λ reply. cc)
      (λ u for unrefused. subst (λ kind. IsMadeOn plan (past ++ record { move = move; lines = taken.lines } ∷ []) w.units kind u) (sym for.0)
      (subst IsBytes (sym for.3) bytes))

  -- an echo is asked for
  pub echo_is_asked : (place : ℕ) (from to octets : List ℕ) → IsFair (AsksForEcho from to octets) → IsBytes octets
      → MoveIsSound plan past move w (comes w place (AsksForEcho from to octets))
  echo_is_asked place from to octets fair bytes = echo_soundly place from to octets fair bytes (slice_get w.systems place) refl
