-- What comes to a system in a run, what it gives out, and what its notes say.
use Rattle.std.specs.Prelude.{ℕ, List}
use Rattle.clnp_machine.specs.Nsap.Address.{IsAddress}
use Rattle.clnp_machine.specs.EsisPdus.Grammar.{IsPdu}
use Rattle.clnp_machine.specs.ScenarioPlan.Plan.{Plan}
use Rattle.clnp_machine.specs.ClnpPlan.declared.note.Note.{Note}
use Rattle.clnp_machine.specs.ClnpPlan.declared.note.Note.TheVariants.{Got, Report, Echoed, Interference}
use Rattle.clnp_machine.specs.Unit.{DataUnit, IsCarriable}
use Rattle.clnp_machine.specs.Content.{IsCarried}
use Rattle.clnp_machine.specs.System.{Input, AsksToSend, AsksForEcho, FrameComes, Output, Transmits, SendsEsis, Notes}
use Rattle.clnp_machine.specs.EveryStep.{IsNoRestart, IsRangeOf}
use Rattle.clnp_machine.specs.ClnpNetwork.LabelledNetwork.{LabelledNetwork}
use Rattle.clnp_machine.specs.ClnpNetwork.Run.{Entry}
use Rattle.clnp_machine.specs.ClnpNetwork.Safe.{IsAnswered, IsHeaderOfOwn, WasSent}
use Rattle.clnp_safety.specs.Invariant.{Carries}

-- nothing is asked of the system
abbrev pub AsksNothing : Input → Type 0
AsksNothing (AsksToSend from to octets ask) = ⊥
AsksNothing (AsksForEcho from to octets) = ⊥
AsksNothing _ = Unit {0}

-- a frame comes from an address, and carries a packet of one of some units, or an ES-IS value, as one may, and nothing behind it
abbrev pub ComesSoundly : List DataUnit → Input → Type 0
ComesSoundly units (FrameComes port sender to_group content) = IsAddress sender × Carries (IsRangeOf units) content × IsCarried content
ComesSoundly units _ = Unit {0}

-- it sends packets of some units, which PDUs can carry, and notes what Q holds of
abbrev pub OutputIsSound : (Note → Type 0) → List DataUnit → Output → Type 0
OutputIsSound Q units (Transmits port target packet) = IsRangeOf units packet × IsCarriable packet
OutputIsSound Q units (SendsEsis port target value) = IsPdu value
OutputIsSound Q units (Notes note) = Q note

-- A note of the system with a name, in a move of a network, says only what is so: what is handed up was sent before, or is founded
-- on what was made before; and nothing interferes.
abbrev pub NoteIsHonest : Plan → List Entry → LabelledNetwork → (name : List ℕ) → Note → Type 0
NoteIsHonest plan past w name (Got from to octets) = WasSent plan past from to octets
NoteIsHonest plan past w name (Report from to reason place octets) = IsHeaderOfOwn w name octets
NoteIsHonest plan past w name (Echoed from to number) = IsAnswered w past name from to number
NoteIsHonest plan past w name (Interference id) = ⊥
NoteIsHonest plan past w name _ = Unit {0}

-- and it says of no restart
pub record NoteIsSteady (plan : Plan) (past : List Entry) (w : LabelledNetwork) (name : List ℕ) (note : Note) : Type 0 where
  pub honest : NoteIsHonest plan past w name note
  pub no_restart : IsNoRestart note
