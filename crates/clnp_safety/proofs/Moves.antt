-- What each move keeps.
use Rattle.clnp_machine.proofs.ClnpBase.Lists.{AllByRecursion-implies}
use Rattle.std.proofs.Common.{◌≡◌, ◌⊎◌, ℕ, inl, inr, List, [], ◌∷◌, ◌++◌, length, refl, sym, subst}
use Rattle.std.specs.Prelude.{slice_get, Some}
use Rattle.std.specs.List.{AllByRecursion}
use Rattle.std.proofs.lemmas.List.{append-nil}
use Rattle.clnp_machine.specs.ScenarioPlan.Plan.{Plan}
use Rattle.clnp_machine.specs.ScenarioPlan.Standing.{AreTogether}
use Rattle.clnp_machine.specs.ClnpPlan.declared.scenario_plan.event.Move.{Move}
use Rattle.clnp_machine.specs.ClnpPlan.Configuration.{IsWithin}
use Rattle.clnp_machine.specs.Unit.{DataUnit}
use Rattle.clnp_machine.specs.System.{SystemState}
use Rattle.clnp_machine.specs.EveryStep.{IsNoRestart}
use Rattle.clnp_machine.specs.ClnpNetwork.LabelledNetwork.{LabelledNetwork, Step, nothing}
use Rattle.clnp_machine.specs.ClnpNetwork.Run.{Entry}
use Rattle.clnp_machine.specs.ClnpNetwork.Clocks.{clocks_of}
use Rattle.clnp_machine.specs.ClnpNetwork.Safe.{SaysNoRestart}
use Rattle.clnp_safety.specs.Invariant.{CopyIsSound, IsPending, SystemStands, UnitsAreSound, SystemsAreSound, WorldIsSound}
use Rattle.clnp_safety.proofs.Past.{pending_later, units_later}
use Rattle.clnp_safety.proofs.Lines.{LineIs, lines_are, lines_say_no_restart}
use Rattle.clnp_safety.proofs.Steps.{Keeps}
use Rattle.clnp_safety.proofs.Outputs.{Stands}
use Rattle.clnp_safety.proofs.Effects.{AnySystem, IsSoundWith, StandsWith}
use Rattle.clnp_safety.proofs.Honest.{NoteIsHonest, NoteIsSteady}

-- each system is sound, and so are units and copies, since a world
abbrev pub IsSoundSince : Plan → List Entry → LabelledNetwork → LabelledNetwork → Type 0
IsSoundSince plan past base = IsSoundWith plan past base AnySystem

-- a sound world is so since itself, and what holds of its systems does so besides
pub sound_since_with : (plan : Plan) (past : List Entry) (w : LabelledNetwork) (X : (place : ℕ) → SystemState → Type 0) → WorldIsSound plan past w
    → ((place : ℕ) (s : SystemState) → slice_get w.systems place ≡ Some s → X place s) → IsSoundWith plan past w X w
sound_since_with plan past w X h also = record {
  made = h.made;
  front = ([], sym (append-nil w.units));
  stands = record {
    made = refl;
    copies = h.copies;
    number = h.systems.number;
    each = λ place s there. record { stands = h.systems.each place s there; also = also place s there };
    mtus = h.mtus;
  };
}

pub sound_since_itself : (plan : Plan) (past : List Entry) (w : LabelledNetwork) → WorldIsSound plan past w → IsSoundSince plan past w w
sound_since_itself plan past w h = sound_since_with plan past w AnySystem h (λ place s there. tt)

-- what holds besides is forgotten
pub sound_since : (plan : Plan) (past : List Entry) (base w : LabelledNetwork) (X : (place : ℕ) → SystemState → Type 0) → IsSoundWith plan past base X w
    → IsSoundSince plan past base w
sound_since plan past base w X k = record {
  made = k.made;
  front = k.front;
  stands = record {
    made = k.stands.made;
    copies = k.stands.copies;
    number = k.stands.number;
    each = λ place s there. record { stands = (k.stands.each place s there).stands; also = tt };
    mtus = k.stands.mtus;
  };
}

-- What holds of a sound world but for how far apart its clocks stand.
pub record IsSoundButClocks (plan : Plan) (past : List Entry) (w : LabelledNetwork) : Type 0 where
  pub made : UnitsAreSound plan past w.units
  pub copies : AllByRecursion (CopyIsSound w.units) w.copies
  pub systems : SystemsAreSound plan past w.units w.systems
  pub mtus : AllByRecursion (IsWithin 512 65535) w.mtus

pub with_clocks : (plan : Plan) (past : List Entry) (w : LabelledNetwork) → IsSoundButClocks plan past w → AreTogether plan.limits.skew (clocks_of w) → WorldIsSound plan past w
with_clocks plan past w h together = record { made = h.made; copies = h.copies; systems = h.systems; together = together; mtus = h.mtus }

-- the world after the move is sound, but for its clocks, beside the past with the move's entry, and its lines say only what is so
pub record MoveIsSound (plan : Plan) (past : List Entry) (move : Move) (w : LabelledNetwork) (taken : Step) : Type 0 where
  pub world : IsSoundButClocks plan (past ++ record { move = move; lines = taken.lines } ∷ []) taken.world
  pub lines : AllByRecursion (LineIs (NoteIsHonest plan past w)) taken.lines

-- what stands beside sound units is a sound world, but for its clocks
pub stands_soundly : (plan : Plan) (past : List Entry) (units : List DataUnit) (w : LabelledNetwork) → UnitsAreSound plan past units
    → Stands units (length plan.systems) (StandsWith plan past units AnySystem units) w → IsSoundButClocks plan past w
stands_soundly plan past units w made h =
    let same = sym h.made in
    record {
      made = subst (λ us. UnitsAreSound plan past us) same made;
      copies = subst (λ us. AllByRecursion (CopyIsSound us) w.copies) same h.copies;
      systems = subst (λ us. SystemsAreSound plan past us w.systems) same
          (record { number = h.number; each = λ place s there. (h.each place s there).stands });
      mtus = h.mtus;
    }

-- requests stay pending with an entry that says nothing of a restart
pub stay_pending : (past : List Entry) (entry : Entry) (units more : List DataUnit) (place : ℕ) (name : List ℕ) (requests : List DataUnit)
    → AllByRecursion (SaysNoRestart name) entry.lines → AllByRecursion (IsPending past units place name) requests
    → AllByRecursion (IsPending (past ++ entry ∷ []) (units ++ more) place name) requests
stay_pending past entry units more place name requests none h =
    AllByRecursion-implies (IsPending past units place name) (IsPending (past ++ entry ∷ []) (units ++ more) place name)
    (pending_later past entry units more place name none) requests h

module _ (plan : Plan) (past : List Entry) (move : Move) (base : LabelledNetwork) (taken : Step) where
  abbrev entry : Entry
  entry = record { move = move; lines = taken.lines }

  -- a system has no requests, or no line says that it was restarted
  abbrev pub IsPendingStill : SystemState → Type 0
  IsPendingStill s = (s.pending ≡ []) ⊎ AllByRecursion (SaysNoRestart s.configuration.name) taken.lines

  system_after : (units : List DataUnit) (more : List DataUnit) → units ≡ base.units ++ more → (place : ℕ) (s : SystemState)
      → SystemStands plan past base.units units place s → IsPendingStill s → SystemStands plan (past ++ entry ∷ []) units units place s
  system_after units more grown place s h still = record {
    sound = h.sound;
    pending = elim still [
      | inl none ↦ subst (AllByRecursion (IsPending (past ++ entry ∷ []) units place s.configuration.name)) (sym none) tt
      | inr quiet ↦
          subst (λ us. AllByRecursion (IsPending (past ++ entry ∷ []) us place s.configuration.name) s.pending) (sym grown)
          (stay_pending past entry base.units more place s.configuration.name s.pending quiet h.pending)
    ];
  }

  -- a move that keeps a world sound beside the past, and of whose requests none is given up
  pub moved_is_sound : Keeps (IsSoundSince plan past base) (LineIs (NoteIsHonest plan past base)) taken
      → ((place : ℕ) (s : SystemState) → slice_get taken.world.systems place ≡ Some s → IsPendingStill s) → MoveIsSound plan past move base taken
  moved_is_sound kept still =
      let k = kept.world in
      record {
        world = record {
          made = units_later plan past (entry ∷ []) taken.world.units k.made;
          copies = k.stands.copies;
          systems = record {
            number = k.stands.number;
            each = λ place s there. system_after taken.world.units k.front.0 k.front.1 place s (k.stands.each place s there).stands (still place s there);
          };
          mtus = k.stands.mtus;
        };
        lines = kept.lines;
      }

  -- the same where no restart is noted
  pub kept_is_sound : Keeps (IsSoundSince plan past base) (LineIs (NoteIsSteady plan past base)) taken → MoveIsSound plan past move base taken
  kept_is_sound kept =
      moved_is_sound
      (record {
        world = kept.world;
        lines = lines_are (NoteIsSteady plan past base) (NoteIsHonest plan past base) (λ name note h. h.honest) taken.lines kept.lines;
      })
      (λ place s there.
      inr (lines_say_no_restart s.configuration.name taken.lines
      (lines_are (NoteIsSteady plan past base) (λ name. IsNoRestart) (λ name note h. h.no_restart) taken.lines kept.lines)))

pub nothing_is_sound : (plan : Plan) (past : List Entry) (move : Move) (w : LabelledNetwork) → WorldIsSound plan past w → MoveIsSound plan past move w (nothing w)
nothing_is_sound plan past move w h =
    kept_is_sound plan past move w (nothing w) (record { world = sound_since_itself plan past w h; lines = tt })
