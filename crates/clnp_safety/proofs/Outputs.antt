-- What the outputs of a system leave of a world, and what their lines are.
use Rattle.clnp_machine.proofs.ClnpBase.Lists.{AllByRecursion-append, AllByRecursion-implies, AllByRecursion-slice_get, set_each}
use Rattle.std.proofs.Common.{◌≡◌, ◌≢◌, ℕ, List, [], ◌++◌, length, refl, ap, ◌∙◌, length-set}
use Rattle.std.specs.Prelude.{slice_get, Option, None, Some}
use Rattle.clnp_machine.specs.Nsap.Address.{IsAddress}
use Rattle.clnp_machine.specs.Pdus.declared.nsap.target.Target.{Target}
use Rattle.clnp_machine.specs.ClnpPlan.Configuration.{IsWithin}
use Rattle.clnp_machine.specs.ClnpPlan.declared.config.PortConfig.{PortConfig}
use Rattle.clnp_machine.specs.ClnpPlan.declared.note.Note.{Note}
use Rattle.clnp_machine.specs.Unit.{DataUnit, Maker, DeclaredAt}
use Rattle.clnp_machine.specs.Content.{Content, IsCarried, Labelled, Esis}
use Rattle.clnp_machine.specs.System.{SystemState, Output, Transmits, SendsEsis, Notes, Effect}
use Rattle.clnp_machine.specs.EveryStep.{IsRangeOf, NotesOnly}
use Rattle.clnp_machine.specs.ClnpNetwork.LabelledNetwork.{LabelledNetwork, copy_from, sends_frame, put_out, with_effect, takes_effect}
use Rattle.std.specs.List.{AllByRecursion}
use Rattle.clnp_safety.specs.Invariant.{Carries, CopyIsSound, IsBornWithUnit}
use Rattle.clnp_safety.specs.Outside.{IsMadeBy}
use Rattle.clnp_safety.proofs.Units.{copies_later}
use Rattle.clnp_safety.proofs.Lines.{LineIs}
use Rattle.clnp_safety.proofs.Steps.{Keeps, keeps-put_all_out}
use Rattle.clnp_safety.proofs.Honest.{OutputIsSound}

-- these units were made, P holds of the system at each place, the copies are sound, and subnetworks take frames that are
-- long enough
pub record Stands (units : List DataUnit) (count : ℕ) (P : (place : ℕ) → SystemState → Type 0) (w : LabelledNetwork) : Type 0 where
  pub made : w.units ≡ units
  pub copies : AllByRecursion (CopyIsSound units) w.copies
  pub number : length w.systems ≡ count
  pub each : (place : ℕ) (s : SystemState) → slice_get w.systems place ≡ Some s → P place s
  pub mtus : AllByRecursion (IsWithin 512 65535) w.mtus

-- each port of a system is at an address
abbrev pub PortsAreAddressed : SystemState → Type 0
PortsAreAddressed system = AllByRecursion (λ (port : PortConfig). IsAddress port.snpa) system.attached.ports

copy_from_is_sound : (units : List DataUnit) (found : Option PortConfig) (target : Target) (maker : Maker) (birth : ℕ) (content : Content)
    → ((port : PortConfig) → found ≡ Some port → IsAddress port.snpa) → Carries (IsRangeOf units) content → IsCarried content → IsBornWithUnit birth content
    → IsMadeBy maker content → AllByRecursion (CopyIsSound units) (copy_from found target maker birth content)
copy_from_is_sound units None target maker birth content addressed carries carried born by = tt
copy_from_is_sound units (Some port) target maker birth content addressed carries carried born by =
    (record { sender = addressed port refl; carries = carries; carried = carried; birth = born; maker = by }, tt)

module _ (count : ℕ) (N : List ℕ → Note → Type 0) where
  frame_stands : (units : List DataUnit) (P : (place : ℕ) → SystemState → Type 0) (system : SystemState) (v : LabelledNetwork) (port : ℕ) (target : Target)
      (maker : Maker) (birth : ℕ) (content : Content) → PortsAreAddressed system → Carries (IsRangeOf units) content → IsCarried content
      → IsBornWithUnit birth content → IsMadeBy maker content
      → Stands units count P v → Keeps (Stands units count P) (LineIs N) (sends_frame system v port target maker birth content)
  frame_stands units P system v port target maker birth content addressed carries carried born by k = record {
    world = record {
      made = k.made;
      copies = AllByRecursion-append (CopyIsSound units) v.copies (copy_from (slice_get system.attached.ports port) target maker birth content) k.copies
          (copy_from_is_sound units (slice_get system.attached.ports port) target maker birth content
          (λ config there. AllByRecursion-slice_get (λ (port : PortConfig). IsAddress port.snpa) system.attached.ports port config there addressed)
          carries carried born by);
      number = k.number;
      each = k.each;
      mtus = k.mtus;
    };
    lines = (tt, tt);
  }

  put_out_stands : (units : List DataUnit) (P : (place : ℕ) → SystemState → Type 0) (system : SystemState) → PortsAreAddressed system
      → (output : Output) → OutputIsSound (N system.configuration.name) units output → (v : LabelledNetwork) → Stands units count P v
      → Keeps (Stands units count P) (LineIs N) (put_out system v output)
  put_out_stands units P system addressed (Notes note) h v k = record { world = k; lines = (h, tt) }
  put_out_stands units P system addressed (Transmits port target packet) h v k =
      frame_stands units P system v port target packet.unit.maker packet.unit.made (Labelled packet []) addressed (h.0, refl) h.1 refl refl k
  put_out_stands units P system addressed (SendsEsis port target value) h v k =
      frame_stands units P system v port target (DeclaredAt system.place) system.moment (Esis value []) addressed refl h tt tt k

  -- a system that gives out only what is sound leaves a sound world
  pub takes_effect_stands : (units : List DataUnit) (P Q : (place : ℕ) → SystemState → Type 0) (w : LabelledNetwork) (place : ℕ) (effect : Effect)
      → ((other : ℕ) (s : SystemState) → other ≢ place → P other s → Q other s) → Q place effect.after
      → PortsAreAddressed effect.after → AllByRecursion (OutputIsSound (N effect.after.configuration.name) (units ++ effect.units)) effect.outputs
      → Stands units count P w → Keeps (Stands (units ++ effect.units) count Q) (LineIs N) (takes_effect w place effect)
  takes_effect_stands units P Q w place effect others here addressed outputs k =
      let later : List DataUnit = units ++ effect.units in
      keeps-put_all_out (Stands later count Q) (LineIs N) effect.after effect.outputs
      (AllByRecursion-implies (OutputIsSound (N effect.after.configuration.name) later) (λ output. (v : LabelledNetwork) → Stands later count Q v → Keeps (Stands later count Q) (LineIs N) (put_out effect.after v output))
      (put_out_stands later Q effect.after addressed) effect.outputs outputs)
      (with_effect w place effect)
      (record {
        made = ap (λ us. us ++ effect.units) k.made;
        copies = copies_later units effect.units w.copies k.copies;
        number = length-set w.systems place effect.after ∙ k.number;
        each = set_each P Q w.systems place effect.after k.each others here;
        mtus = k.mtus;
      })

-- any world will do
abbrev AnyWorld : LabelledNetwork → Type 0
AnyWorld w = Unit {0}

put_out_notes : (Q : Note → Type 0) (system : SystemState) (output : Output) → NotesOnly Q output → (v : LabelledNetwork) → AnyWorld v
    → Keeps AnyWorld (LineIs (λ name. Q)) (put_out system v output)
put_out_notes Q system (Notes note) h v k = record { world = tt; lines = (h, tt) }
put_out_notes Q system (Transmits port target packet) h v k = record { world = tt; lines = (tt, tt) }
put_out_notes Q system (SendsEsis port target value) h v k = record { world = tt; lines = (tt, tt) }

-- a system that notes only what Q holds of writes only such lines
pub takes_effect_notes : (Q : Note → Type 0) (w : LabelledNetwork) (place : ℕ) (effect : Effect) → AllByRecursion (NotesOnly Q) effect.outputs
    → AllByRecursion (LineIs (λ name. Q)) (takes_effect w place effect).lines
takes_effect_notes Q w place effect h =
    (keeps-put_all_out AnyWorld (LineIs (λ name. Q)) effect.after effect.outputs
    (AllByRecursion-implies (NotesOnly Q) (λ output. (v : LabelledNetwork) → AnyWorld v → Keeps AnyWorld (LineIs (λ name. Q)) (put_out effect.after v output))
    (put_out_notes Q effect.after) effect.outputs h)
    (with_effect w place effect) tt).lines
