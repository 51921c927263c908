-- One system: its state, what comes to it, and what it does.
use Rattle.std.specs.Prelude.{ℕ, ◌+◌, ◌-◌, ◌^◌, min, Bool, false, List, [], ◌++◌}
use Rattle.clnp_plan.specs.Pdus.declared.nsap.target.Target.{Target}
use Rattle.system_tables.specs.declared.reassembly.table.TableLimits.{TableLimits}
use Rattle.system_tables.specs.Reassembly.Buffer.{Buffer}
use Rattle.pdus.specs.EsisPdus.Value.{EsisValue}
use Rattle.clnp_plan.specs.EsisTables.Fact.{Fact}
use Rattle.clnp_plan.specs.Configuration.{SystemConfiguration}
use Rattle.clnp_plan.specs.declared.config.Limits.{Limits}
use Rattle.clnp_plan.specs.declared.ask.Ask.{Ask}
use Rattle.clnp_plan.specs.declared.note.Note.{Note}
use Rattle.clnp_machine.specs.Attachment.{Attachment, as_declared}
use Rattle.clnp_machine.specs.Change.{Change}
use Rattle.clnp_machine.specs.Unit.{DataUnit, Packet}
use Rattle.clnp_machine.specs.Content.{Content}
use Rattle.clnp_machine.specs.Identifiers.{Identifiers, opening}

pub record SystemState : Type 0 where
  -- its place among the declarations, from 0
  pub place : ℕ
  pub configuration : SystemConfiguration
  -- its ports and its routes, as they are now
  pub attached : Attachment
  -- the longest time that a reassembly buffer is kept
  pub hold : ℕ
  pub moment : ℕ
  -- the number of the last unit that it made
  pub count : ℕ
  pub identifiers : Identifiers
  -- the segments of units that aren't whole yet
  pub buffers : List (Buffer Packet)
  -- the echo requests that it made and that are still to be answered, the oldest first (RFC 1575)
  pub pending : List DataUnit
  -- what it heard of other systems since its last restart, in order (ISO 9542, section 6.3)
  pub facts : List Fact
  -- its configuration timer: how often it says hello, in seconds; 0 is never (ISO 9542, section 6.1.1)
  pub hello : ℕ
  -- the moment from which on its next hello is due
  pub next_hello : ℕ
  -- whether it is congested
  pub congested : Bool

-- a system at its start, with a quiet time that ends at a moment
abbrev pub first_state : (place : ℕ) → SystemConfiguration → Limits → (now quiet : ℕ) → SystemState
first_state place configuration limits now quiet =
    record {
      place = place;
      configuration = configuration;
      attached = as_declared configuration;
      hold = limits.hold;
      moment = now;
      count = 0;
      identifiers = opening limits.reuse quiet;
      buffers = [];
      pending = [];
      facts = [];
      hello = configuration.settings.hello;
      next_hello = now;
      congested = false;
    }

-- the numbers that the buffers keep to
abbrev pub table_limits : SystemState → TableLimits
table_limits s =
    record {
      slots = s.configuration.settings.slots;
      segments = s.configuration.settings.segments;
      budget = s.configuration.settings.budget;
      hold = s.hold;
    }

-- What comes to a system: it is asked to send octets, or an echo request with them; a frame comes in at a port, from an address
-- there, to a group of systems or to it alone; a moment comes; it is restarted; it is congested from now on, or no more; what it
-- is attached to changes.
pub data Input : Type 0 where
  AsksToSend : (from to octets : List ℕ) (ask : Ask) → Input
  AsksForEcho : (from to octets : List ℕ) → Input
  FrameComes : (port : ℕ) (sender : List ℕ) (to_group : Bool) (content : Content) → Input
  MomentComes : (now : ℕ) → Input
  IsRestarted : Input
  IsCongested : (on : Bool) → Input
  IsChanged : (change : Change) → Input

-- what a system gives out: it sends a packet or an ES-IS PDU on a port, or notes something
pub data Output : Type 0 where
  Transmits : (port : ℕ) (target : Target) (packet : Packet) → Output
  SendsEsis : (port : ℕ) (target : Target) (value : EsisValue) → Output
  Notes : (note : Note) → Output

-- one step of a system: its state after it, its outputs in their order, and the units that it made
pub record Effect : Type 0 where
  pub after : SystemState
  pub outputs : List Output
  pub units : List DataUnit

-- nothing is done
abbrev pub idles : SystemState → Effect
idles s = record { after = s; outputs = []; units = [] }

-- nothing changes but that something is given out
abbrev pub gives : SystemState → List Output → Effect
gives s outputs = record { after = s; outputs = outputs; units = [] }

-- one effect, and then the next
abbrev pub then_does : Effect → (SystemState → Effect) → Effect
then_does effect next =
    record {
      after = (next effect.after).after;
      outputs = effect.outputs ++ (next effect.after).outputs;
      units = effect.units ++ (next effect.after).units;
    }

-- the number behind another one, among a system's units: one more, and the greatest one for ever
abbrev pub number_behind : ℕ → ℕ
number_behind number = min (number + 1) (2 ^ 64 - 1)

-- the number of the next unit
abbrev pub next_number : SystemState → ℕ
next_number s = number_behind s.count
