-- What came of a frame.
use Rattle.std.specs.Prelude.{◌≡◌, ◌==◌, ℕ, Bool, false, List, length, None}
use Rattle.clnp_machine.specs.PduHeader.Grammar.{BeginsWith}
use Rattle.clnp_machine.specs.PduHeader.Headers.{SpellsHeader}
use Rattle.clnp_machine.specs.PduHeader.Value.{PduValue}
use Rattle.clnp_machine.specs.SystemTables.declared.esis_tables.fact.Neighbour.{Neighbour}
use Rattle.clnp_machine.specs.ClnpPlan.declared.output.Output.{Output}
use Rattle.clnp_machine.specs.Content.{Content, Labelled}
use Rattle.clnp_machine.specs.Given.{Appends}
use Rattle.clnp_machine.specs.Local.{is_own}
use Rattle.clnp_machine.specs.Step.{begins_unit, content_comes}
use Rattle.clnp_machine.specs.System.{SystemState}
use Rattle.clnp_machine.specs.Unit.{Packet, IsCarriable, value_of}
use Rattle.clnp_systems.specs.EntityState.{SystemEntityState}
use Rattle.clnp_systems.specs.EntityStands.{PartsStand}
use Rattle.clnp_systems.specs.declared.entity.Arrival.{Arrival}
use Rattle.clnp_systems.specs.declared.entity.Arrival.TheVariants.{Done, Passes}
use Rattle.clnp_systems.specs.declared.passing.Passing.{Passing}

-- all was done that the system does, and given out
pub record IsDone (s : SystemState) (neighbour : Neighbour) (group : Bool) (content : Content) (entity : SystemEntityState)
    (before after : List Output) : Type 0 where
  pub parts : PartsStand entity (content_comes s neighbour group content).after
  pub outputs : Appends s.moment None before after (content_comes s neighbour group content).outputs

-- a PDU that passes by has this value
pub record HasValue (passing : Passing) (v : PduValue) : Type 0 where
  pub destination : v.destination ≡ passing.to
  pub source : v.source ≡ passing.from
  pub first : begins_unit v.segmentation ≡ passing.first
  pub lifetime : v.lifetime ≡ passing.life
  pub header : SpellsHeader v passing.head.now
  pub len : length v.body ≡ passing.len

-- it stands at the front of the frame: the header, the data, and what follows them
pub record IsAtFront (passing : Passing) (frame : List ℕ) : Type 0 where
  pub value : PduValue
  pub following : List ℕ
  pub has_value : HasValue passing value
  pub begins : BeginsWith frame value following

-- it carries a packet with a lifetime, for an address that isn't the system's
pub record IsForOther (s : SystemState) (content : Content) (passing : Passing) : Type 0 where
  pub packet : Packet
  pub following : List ℕ
  pub content_is : content ≡ Labelled packet following
  pub carriable : IsCarriable packet
  pub alive : (packet.lifetime == 0) ≡ false
  pub has_value : HasValue passing (value_of packet)
  pub not_own : is_own s packet.unit.destination ≡ false

abbrev pub ComesOf : Arrival → SystemState → Neighbour → Bool → Content → SystemEntityState
    → (before after : List Output) → Type 0
ComesOf Done s neighbour group content entity before after = IsDone s neighbour group content entity before after
ComesOf (Passes passing) s neighbour group content entity before after = IsForOther s content passing

-- where it is for another, nothing was done yet
abbrev pub LeavesAsItWas : Arrival → (old new : SystemEntityState) → (before after : List Output) → Type 0
LeavesAsItWas Done old new before after = Unit {0}
LeavesAsItWas (Passes passing) old new before after = (new ≡ old) × (after ≡ before)

-- and its PDU is told
abbrev pub TellsPdu : Arrival → (frame : List ℕ) → Type 0
TellsPdu Done frame = Unit {0}
TellsPdu (Passes passing) frame = IsAtFront passing frame
