-- What is so of each step of a system, as the machine's laws say.
use Rattle.std.specs.Prelude.{◌≡◌, ◌↔◌, ℕ, ◌≤◌, Bool, false, IsTrue, List, [], ◌++◌, length, None, All}
use Rattle.std.specs.List.{AllByRecursion, Contains, flat_map}
use Rattle.hex.specs.Hex.{IsBytes}
use Rattle.clnp_machine.specs.Nsap.Address.{IsAddress}
use Rattle.clnp_machine.specs.ClnpOptions.Edits.{HaveOneForm}
use Rattle.clnp_machine.specs.ClnpOptions.Parameter.{Parameter}
use Rattle.clnp_machine.specs.PduHeader.Spelling.{header_length}
use Rattle.clnp_machine.specs.MadePdus.Match.{Echoes, echoes}
use Rattle.clnp_machine.specs.EsisPdus.Grammar.{IsPdu}
use Rattle.clnp_machine.specs.EsisPdus.Spelling.{spelling}
use Rattle.clnp_machine.specs.EsisPdus.Value.{EsisValue}
use Rattle.clnp_machine.specs.SystemTables.declared.esis_tables.fact.Neighbour.{Neighbour}
use Rattle.clnp_machine.specs.SystemTables.declared.reassembly.table.TableLimits.{TableLimits}
use Rattle.clnp_machine.specs.Reassembly.Arrival.{Arrival}
use Rattle.clnp_machine.specs.Reassembly.Buffer as buffer
use Rattle.clnp_machine.specs.Reassembly.Buffer.{Buffer, buffer_of, clashes, held, without}
use Rattle.clnp_machine.specs.ClnpPlan.Configuration.{IsAddressed, IsAddressedRoute, IsPort, IsSystem, SystemConfiguration}
use Rattle.clnp_machine.specs.Attachment.{IsAttached, as_declared}
use Rattle.clnp_machine.specs.Unit.{DataUnit, IsCarriable, Packet, value_of, wire}
use Rattle.clnp_machine.specs.Content.{IsCarried, content_of}
use Rattle.clnp_machine.specs.System.{SystemState, Input, IsRestarted}
use Rattle.clnp_machine.specs.Local.{Action, gives_up, header_size, refusal, tick}
use Rattle.clnp_machine.specs.Esis.{esis_comes, forgets, says_hello}
use Rattle.clnp_machine.specs.Step.{outputs_of, responds, step}
use Rattle.clnp_machine.specs.EveryStep.{BreaksNoEsisRule, BreaksNoRule, IsFair, IsFairChange, IsForOwn, IsFresh, IsMadeFor, IsNoRestart, IsWithinBudget, KeepsAsOffered, KnowsAddresses, NotesOnly, OnlyHellos, ReportsOn, RestartsNothing, SendsCarriable, SendsEsisPdus, SendsRangesOrGoesOn, StaysItself, WasKeptOrComes, WasPendingOrMade, attached_after, moment_after, segments_in}
use Rattle.clnp_machine.specs.Ways.{IsFirstOrGoesOn}
use Rattle.clnp_machine.specs.Told.{IsAllowed, IsRefusal, IsToldBy, NoteIsQuiet, NotesNoRule, SpellsPdus, TellsNoInterference, TellsOnly, WasThereOrTakes}

-- of a whole step
pub record OfSteps : Type 0 where
  pub itself : (s : SystemState) (input : Input) → StaysItself s (step s input).after
  pub moment : (s : SystemState) (input : Input) → (step s input).after.moment ≡ moment_after s input
  pub attached : (s : SystemState) (input : Input) → (step s input).after.attached ≡ attached_after s input
  pub ports : (s : SystemState) (input : Input) → length (step s input).after.attached.ports ≡ length s.attached.ports
  pub soundly : (s : SystemState) (input : Input) → IsFairChange s input → IsAttached s.attached
      → IsAttached (step s input).after.attached
  pub fresh : (s : SystemState) (input : Input) → AllByRecursion (IsFresh s (moment_after s input)) (step s input).units
  pub made_for : (s : SystemState) (input : Input) → AllByRecursion (IsMadeFor input) (step s input).units
  pub reports : (s : SystemState) (input : Input) → IsFair input → SpellsPdus input → KeepsAsOffered s
      → AllByRecursion (ReportsOn s input) (step s input).units
  pub pending : (s : SystemState) (input : Input)
      → AllByRecursion (WasPendingOrMade s (step s input)) (step s input).after.pending
  pub forgotten : (s : SystemState) → (step s IsRestarted).after.pending ≡ []
  pub no_restart : (s : SystemState) (input : Input) → RestartsNothing input
      → AllByRecursion (NotesOnly IsNoRestart) (step s input).outputs
  pub ranges : (s : SystemState) (input : Input)
      → AllByRecursion (SendsRangesOrGoesOn s input (step s input).units) (step s input).outputs
  pub hops : (s : SystemState) (input : Input) → AllByRecursion (IsFirstOrGoesOn s input) (step s input).outputs
  pub carriable : (s : SystemState) (input : Input) → IsSystem s.configuration → AllByRecursion IsPort s.attached.ports
      → IsFair input
      → All IsAddress s.configuration.addresses → KeepsAsOffered s
      → AllByRecursion SendsCarriable (step s input).outputs
  pub kept : (s : SystemState) (input : Input) → IsFair input → KeepsAsOffered s → KeepsAsOffered (step s input).after
  pub esis_pdus : (s : SystemState) (input : Input) → IsSystem s.configuration → All IsAddress s.configuration.addresses
      → AllByRecursion IsAddressedRoute s.attached.routes → IsFair input → KnowsAddresses s
      → AllByRecursion SendsEsisPdus (step s input).outputs
  pub known : (s : SystemState) (input : Input) → IsFair input → KnowsAddresses s → KnowsAddresses (step s input).after
  pub no_rule : (s : SystemState) (input : Input) → SpellsPdus input
      → AllByRecursion (NotesOnly NotesNoRule) (step s input).outputs
  pub own : (s : SystemState) (input : Input) → AllByRecursion (NotesOnly (IsForOwn s)) (step s input).outputs
  pub budget : (s : SystemState) (input : Input) → IsWithinBudget s → IsWithinBudget (step s input).after
  pub kept_or_come : (s : SystemState) (input : Input)
      → AllByRecursion (WasKeptOrComes s input) (segments_in (step s input).after.buffers)

-- of what a system does at its own addresses
pub record OfDeeds : Type 0 where
  pub allowed : (s : SystemState) (u : DataUnit) → (refusal s u ≡ None) ↔ IsAllowed s u
  pub refused : (s : SystemState) (u : DataUnit) → IsRefusal (refusal s u)
  pub told : (s : SystemState) (actions : List Action)
      → AllByRecursion (NotesOnly (IsToldBy actions)) (flat_map (outputs_of s) actions)
  pub tick : (s : SystemState) (now : ℕ) → AllByRecursion (TellsOnly NoteIsQuiet) (tick s now).actions
  pub ended : (s : SystemState) (ended : Buffer Packet)
      → (gives_up s ended).after ≡ record s { buffers = without ended.key s.buffers; count = (gives_up s ended).after.count }

-- of what a system says and hears of others
pub record OfHellos : Type 0 where
  pub comes : (s : SystemState) (neighbour : Neighbour) (value : EsisValue)
      → OnlyHellos s (esis_comes s neighbour value)
  pub answers : (s : SystemState) (neighbour : Neighbour) (to_group : Bool) (p : Packet)
      → OnlyHellos s (responds s neighbour to_group p)
  pub forgotten : (s : SystemState) (before : ℕ) → OnlyHellos s (forgets before s)
  pub said : (s : SystemState) → OnlyHellos s (says_hello s)

-- of a segment that is offered to buffers
pub record OfSegments : Type 0 where
  pub buffers : (limits : TableLimits) (moment : ℕ) (arrival : Arrival Packet) (buffers : List (Buffer Packet))
      → AllByRecursion (WasThereOrTakes limits moment arrival buffers) (buffer.after limits moment arrival buffers)
  pub others : (limits : TableLimits) (moment : ℕ) (arrival : Arrival Packet) (buffers : List (Buffer Packet))
      → AllByRecursion (Contains buffers) (without arrival.key (buffer.with_kept limits moment arrival buffers))
  pub within : (limits : TableLimits) (moment : ℕ) (arrival : Arrival Packet) (buffers : List (Buffer Packet))
      → held buffers ≤ limits.budget → held (buffer.after limits moment arrival buffers) ≤ limits.budget
  pub apart : (limits : TableLimits) (moment : ℕ) (arrival : Arrival Packet) (buffers : List (Buffer Packet))
      → clashes (buffer_of arrival.key buffers) arrival.shape ≡ false
      → TellsNoInterference (buffer.answer limits moment arrival buffers)

-- of a packet's header, and of the options in it, whose form a router keeps
pub record OfHeaders : Type 0 where
  pub header : (p : Packet) → HaveOneForm p.options p.unit.options → header_length (value_of p) ≡ header_size p.unit
  pub same : (options : List Parameter) → HaveOneForm options options
  pub chained : (first second third : List Parameter) → HaveOneForm first second → HaveOneForm second third
      → HaveOneForm first third

pub record StepLaws : Type 0 where
  pub steps : OfSteps
  pub deeds : OfDeeds
  pub hellos : OfHellos
  pub segments : OfSegments
  pub headers : OfHeaders
  pub declared : (system : SystemConfiguration) → IsSystem system → IsAddressed system → IsAttached (as_declared system)
  pub outside : (number moment : ℕ) (octets : List ℕ) → IsBytes octets → IsCarried (content_of number moment octets)
  pub frames : (p : Packet) (following : List ℕ) → IsCarriable p → BreaksNoRule (wire p ++ following)
  pub answers : (request_data reply_data : List ℕ) → IsBytes reply_data
      → IsTrue (echoes request_data reply_data) ↔ Echoes request_data reply_data
  pub esis_frames : (value : EsisValue) (following : List ℕ) → IsPdu value
      → BreaksNoEsisRule (spelling value ++ following)
