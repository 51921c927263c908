-- What a system tells of in what it does, and when it makes a unit.
use Rattle.std.specs.Prelude.{◌≡◌, ◌≢◌, ℕ, ◌+◌, ◌≤◌, ◌⊎◌, true, List, [], ◌∷◌, ◌++◌, length, Option, None, Some}
use Rattle.std.specs.List.{AllByRecursion, Contains}
use Rattle.clnp_plan.specs.PduHeader.Table.{table}
use Rattle.system_tables.specs.declared.reassembly.table.TableLimits.{TableLimits}
use Rattle.system_tables.specs.Reassembly.Arrival.{Arrival, same_key}
use Rattle.system_tables.specs.Reassembly.Buffer.{Answer, Buffer, Interference, opened_by}
use Rattle.clnp_plan.specs.declared.note.Note.{Note}
use Rattle.clnp_plan.specs.declared.note.Note.TheVariants as note
use Rattle.clnp_machine.specs.Identifiers.{Identifiers, last_use, next}
use Rattle.clnp_machine.specs.Unit.{Packet, DataUnit}
use Rattle.clnp_machine.specs.Content.{Unlabelled}
use Rattle.clnp_machine.specs.System.{SystemState, Input, FrameComes}
use Rattle.clnp_machine.specs.Local.{Action, Deed, Sends, Tells, header_size, identifier_refusal, is_own, made_in, most_octets}

-- a note that neither hands up nor refuses, and tells of no interference and of no frame of no protocol
abbrev pub NoteIsQuiet : Note → Type 0
NoteIsQuiet (note.Got from to octets) = ⊥
NoteIsQuiet (note.Report from to reason place octets) = ⊥
NoteIsQuiet (note.Echoed from to unit) = ⊥
NoteIsQuiet (note.Stray from to) = ⊥
NoteIsQuiet (note.Refused why value) = ⊥
NoteIsQuiet (note.Interference id) = ⊥
NoteIsQuiet note.Alien = ⊥
NoteIsQuiet _ = Unit {0}

-- an action tells only what Q holds of
abbrev pub TellsOnly : (Note → Type 0) → Action → Type 0
TellsOnly Q (Tells told) = Q told
TellsOnly Q (Sends u) = Unit {0}

-- a note is told by one of some actions, or is quiet
abbrev pub IsToldBy : List Action → Note → Type 0
IsToldBy actions told = Contains actions (Tells told) ⊎ NoteIsQuiet told

-- what is noted in place of a unit, if anything is, refuses it
abbrev pub IsRefusal : Option Note → Type 0
IsRefusal None = Unit {0}
IsRefusal (Some (note.Refused why value)) = Unit {0}
IsRefusal (Some _) = ⊥

-- what a unit is that isn't refused
pub record IsAllowed (s : SystemState) (u : DataUnit) : Type 0 where
  pub own : is_own s u.source ≡ true
  pub octets : length u.octets ≤ most_octets
  pub header : header_size u ≤ 254
  pub identifier : identifier_refusal s u.identifier ≡ None

-- a deed leaves the state as it was, and makes no unit
pub record LeavesRefused (s : SystemState) (deed : Deed) : Type 0 where
  pub same : deed.after ≡ s
  pub units : made_in deed.actions ≡ []

-- The next identifier may be drawn at a moment: the quiet time is over, and so is the time for which the identifier rests since its
-- last use, if it was used (ISO 8473, section 6.8).
pub record MayBeDrawn (now : ℕ) (ids : Identifiers) : Type 0 where
  pub quiet : ids.quiet ≤ now
  pub rested : (used : ℕ) → last_use (next ids) ids.uses ≡ Some used → used + ids.reuse ≤ now

-- Discards for a rule of PDUs.

-- no rule gives the reason, whatever the frame
abbrev pub IsOfNoRule : ℕ → Type 0
IsOfNoRule reason = (frame : List ℕ) → AllByRecursion (λ rule. rule.reason ≢ reason) (table frame)

-- where a note tells of a discard, it isn't for a rule; nor does it tell of an ES-IS PDU that breaks one
abbrev pub NotesNoRule : Note → Type 0
NotesNoRule (note.Discard reason place) = IsOfNoRule reason
NotesNoRule (note.BadEsis rule place) = ⊥
NotesNoRule _ = Unit {0}

-- no octets come that spell no PDU
abbrev pub SpellsPdus : Input → Type 0
SpellsPdus (FrameComes port sender to_group (Unlabelled octets)) = ⊥
SpellsPdus _ = Unit {0}

-- Segments that are offered to buffers.

-- an answer that tells of no interference
abbrev pub TellsNoInterference : Answer → Type 0
TellsNoInterference (Interference there other) = ⊥
TellsNoInterference _ = Unit {0}

-- a buffer is one of some with a segment more
pub record HasOneMore (arrival : Arrival Packet) (buffers : List (Buffer Packet)) (later : Buffer Packet) : Type 0 where
  pub before : Buffer Packet
  pub there : Contains buffers before
  pub same : same_key before.key arrival.key ≡ true
  pub more : later ≡ record before { kept = before.kept ++ arrival ∷ [] }

-- a buffer was among some before a segment was offered, or is opened for it, or has it besides
abbrev pub WasThereOrTakes : TableLimits → ℕ → Arrival Packet → List (Buffer Packet) → Buffer Packet → Type 0
WasThereOrTakes limits moment arrival buffers later =
    Contains buffers later ⊎ (later ≡ opened_by limits moment arrival) ⊎ HasOneMore arrival buffers later
