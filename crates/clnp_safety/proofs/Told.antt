-- What a system notes is told by what it does, or quiet; so is what it notes of others.
use Rattle.clnp_machine.proofs.ClnpBase.Lists.{AllByRecursion-contains, AllByRecursion-implies}
use Rattle.std.proofs.Common.{inl, inr, List}
use Rattle.std.specs.List.{AllByRecursion, flat_map}
use Rattle.clnp_machine.specs.ClnpPlan.declared.note.Note.{Note}
use Rattle.clnp_machine.specs.ClnpPlan.declared.note.Note.TheVariants.{Gone, Hear, Ignored}
use Rattle.clnp_machine.specs.System.{SystemState, Output, Transmits, SendsEsis, Notes}
use Rattle.clnp_machine.specs.Local.{Action, Tells}
use Rattle.clnp_machine.specs.Step.{outputs_of}
use Rattle.clnp_machine.specs.EveryStep.{IsOfHellos, NotesOnly}
use Rattle.clnp_machine.specs.Told.{IsToldBy, NoteIsQuiet, TellsOnly}
use Rattle.clnp_safety.specs.StepLaws.{StepLaws}
use Rattle.clnp_machine.proofs.Noted.{output_notes}

told_is : (Q : Note → Type 0) → ((note : Note) → NoteIsQuiet note → Q note) → (actions : List Action) → AllByRecursion (TellsOnly Q) actions
    → (note : Note) → IsToldBy actions note → Q note
told_is Q quiet actions tell note told =
    elim told [
      | inl there ↦ AllByRecursion-contains (TellsOnly Q) actions (Tells note) there tell
      | inr is_quiet ↦ quiet note is_quiet
    ]

-- what is noted where a system does this
pub outputs_note : StepLaws → (Q : Note → Type 0) → ((note : Note) → NoteIsQuiet note → Q note) → (s : SystemState) (actions : List Action)
    → AllByRecursion (TellsOnly Q) actions → AllByRecursion (NotesOnly Q) (flat_map (outputs_of s) actions)
outputs_note laws Q quiet s actions tell =
    AllByRecursion-implies (NotesOnly (IsToldBy actions)) (NotesOnly Q) (output_notes (IsToldBy actions) Q (told_is Q quiet actions tell))
    (flat_map (outputs_of s) actions) (laws.deeds.told s actions)

hello_is_quiet : (output : Output) → IsOfHellos output → NotesOnly NoteIsQuiet output
hello_is_quiet (SendsEsis port target value) h = tt
hello_is_quiet (Notes (Hear table key heard)) h = tt
hello_is_quiet (Notes (Gone table key)) h = tt
hello_is_quiet (Notes (Ignored rd)) h = tt
hello_is_quiet (Transmits port target packet) h = absurd h
hello_is_quiet (Notes _) h = absurd h

-- what is noted where a system says or hears something of others
pub hellos_note : (Q : Note → Type 0) → ((note : Note) → NoteIsQuiet note → Q note) → (outputs : List Output) → AllByRecursion IsOfHellos outputs
    → AllByRecursion (NotesOnly Q) outputs
hellos_note Q quiet outputs h =
    AllByRecursion-implies IsOfHellos (NotesOnly Q) (λ output is. output_notes NoteIsQuiet Q quiet output (hello_is_quiet output is)) outputs h
