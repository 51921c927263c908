-- What holds of each network of a run, beside the entries before it and the units that were made in them.
use Rattle.std.specs.Prelude.{◌≡◌, ℕ, ◌+◌, ◌≤◌, ◌<◌, ◌⊎◌, false, List, [], length, slice_get, None, Some, AllPairs}
use Rattle.std.specs.List.{AllByRecursion, Contains}
use Rattle.clnp_machine.specs.ScenarioPlan.Plan.{Plan}
use Rattle.clnp_machine.specs.ScenarioPlan.Standing.{AreTogether}
use Rattle.clnp_machine.specs.ClnpPlan.Configuration.{IsWithin, SystemConfiguration}
use Rattle.hex.specs.Hex.{IsBytes}
use Rattle.clnp_machine.specs.Nsap.Address.{IsAddress}
use Rattle.clnp_machine.specs.Pdus.declared.pdu_header.kind.Kind.{Kind}
use Rattle.clnp_machine.specs.Pdus.declared.pdu_header.kind.Kind.TheVariants.{Dt, Er, Erq, Erp}
use Rattle.clnp_machine.specs.PduHeader.Rules.{header_of}
use Rattle.clnp_machine.specs.PduHeader.Spelling.{type_code}
use Rattle.clnp_machine.specs.Reassembly.Arrival.{Arrival}
use Rattle.clnp_machine.specs.Reassembly.Buffer.{Buffer, held, is_whole}
use Rattle.clnp_machine.specs.Attachment.{IsAttached}
use Rattle.clnp_machine.specs.Identifiers.{Identifiers, Use}
use Rattle.clnp_machine.specs.Unit.{DataUnit, DeclaredAt, Packet, IsCarriable, wire}
use Rattle.clnp_machine.specs.Content.{Content, IsCarried, Labelled, Esis, Unlabelled}
use Rattle.clnp_machine.specs.System.{SystemState}
use Rattle.clnp_machine.specs.EveryStep.{IsRangeOf, KnowsAddresses}
use Rattle.clnp_machine.specs.Local.{header_size, offered}
use Rattle.clnp_machine.specs.ClnpNetwork.LabelledNetwork.{LabelledNetwork, Copy}
use Rattle.clnp_machine.specs.ClnpNetwork.Clocks.{clocks_of}
use Rattle.clnp_machine.specs.ClnpNetwork.Run.{Entry}
use Rattle.clnp_machine.specs.ClnpNetwork.Safe.{KeepsWhatCame, ReportsStand, RequestedSinceRestart, Rests, WasSent}
use Rattle.clnp_safety.specs.Outside.{IsMadeBy}

-- the system declared at a place has an address
pub record Owns (plan : Plan) (place : ℕ) (address : List ℕ) : Type 0 where
  pub system : SystemConfiguration
  pub there : slice_get plan.systems place ≡ Some system
  pub own : Contains system.addresses address

-- A unit reports the discard of a packet of one of some units: it goes to that one's source, with the header of the packet's PDU
-- for its data, in one piece.
pub record IsReportIn (units : List DataUnit) (u : DataUnit) : Type 0 where
  pub whole : u.identifier ≡ None
  pub packet : Packet
  pub range : IsRangeOf units packet
  pub destination : packet.unit.source ≡ u.destination
  pub data_are : u.octets ≡ header_of (wire packet)

-- What a unit of a kind is founded on: an event sent a unit of data, a report is one of the discard of a packet, and the data of
-- requests and replies are octets.
abbrev pub IsMadeOn : Plan → List Entry → List DataUnit → Kind → DataUnit → Type 0
IsMadeOn plan past units Dt u = WasSent plan past u.source u.destination u.octets
IsMadeOn plan past units Er u = IsReportIn units u
IsMadeOn plan past units Erq u = IsBytes u.octets
IsMadeOn plan past units Erp u = IsBytes u.octets

-- What holds of a unit that was made: it is founded as its kind asks for, its maker has its source among its addresses, and its
-- data are all that its initial PDU carries.
pub record UnitIsSound (plan : Plan) (past : List Entry) (units : List DataUnit) (u : DataUnit) : Type 0 where
  pub founded : IsMadeOn plan past units u.kind u
  pub place : ℕ
  pub maker : u.maker ≡ DeclaredAt place
  pub owner : Owns plan place u.source
  pub first_position : u.first_position ≡ 0
  pub total : u.total ≡ header_size u + length u.octets

-- each unit rests behind those before it
abbrev pub EachRests : ℕ → List DataUnit → Type 0
EachRests reuse units = AllPairs (Rests reuse) units

-- a frame carries a packet of which P holds, or an ES-IS value, and nothing behind it
abbrev pub Carries : (Packet → Type 0) → Content → Type 0
Carries P (Labelled packet following) = P packet × (following ≡ [])
Carries P (Esis value following) = following ≡ []
Carries P (Unlabelled octets) = ⊥

-- the copy of a packet is as old as its unit
abbrev pub IsBornWithUnit : ℕ → Content → Type 0
IsBornWithUnit birth (Labelled packet following) = birth ≡ packet.unit.made
IsBornWithUnit birth (Esis value following) = Unit {0}
IsBornWithUnit birth (Unlabelled octets) = ⊥

pub record CopyIsSound (units : List DataUnit) (copy : Copy) : Type 0 where
  pub sender : IsAddress copy.sender
  pub carries : Carries (IsRangeOf units) copy.content
  pub carried : IsCarried copy.content
  pub birth : IsBornWithUnit copy.birth copy.content
  pub maker : IsMadeBy copy.maker copy.content

-- a kept segment is a packet of the unit, as it was offered, and a PDU can carry it
pub record IsOfUnit (units : List DataUnit) (u : DataUnit) (arrival : Arrival Packet) : Type 0 where
  pub packet : IsRangeOf units arrival.carried
  pub carriable : IsCarriable arrival.carried
  pub unit : arrival.carried.unit ≡ u
  pub offered : arrival ≡ offered arrival.carried []

-- What holds of a buffer: its segments are those of one unit, and it was opened and ends while none of another unit with
-- the key can come.
pub record BufferIsSound (plan : Plan) (units : List DataUnit) (buffer : Buffer Packet) : Type 0 where
  pub unit : DataUnit
  pub made : Contains units unit
  pub identifier : ℕ
  pub identified : unit.identifier ≡ Some identifier
  pub key : buffer.key ≡ record { from = unit.source; to = unit.destination; id = identifier }
  pub shape : buffer.shape ≡ record { total = unit.total; head_len = header_size unit; kind = type_code unit.kind }
  pub opened : buffer.opened ≤ unit.made + plan.limits.age + plan.limits.skew
  pub deadline : buffer.deadline ≤ buffer.opened + plan.limits.hold
  pub kept : AllByRecursion (IsOfUnit units unit) buffer.kept

-- what was used no later than a moment, one after another
pub record AreUsesUntil (now : ℕ) (uses : List Use) : Type 0 where
  pub until_now : AllByRecursion (λ given. given.moment ≤ now) uses
  pub in_order : AllPairs (λ (earlier later : Use). earlier.moment ≤ later.moment) uses

-- the identifier of a unit is among the uses, or was used so long before the end of the quiet time
abbrev pub IsInUses : Identifiers → DataUnit → Type 0
IsInUses ids u =
    (identifier : ℕ) → u.identifier ≡ Some identifier
    → Contains ids.uses (record { identifier = identifier; moment = u.made }) ⊎ (u.made + ids.reuse ≤ ids.quiet)

-- a unit was made no later than at a moment, and its identifier is among the uses, or rests in the quiet time
pub record IsAccounted (now : ℕ) (ids : Identifiers) (u : DataUnit) : Type 0 where
  pub made : u.made ≤ now
  pub used : IsInUses ids u

-- What holds of the system at a place: it goes by its own moment alone.
pub record SystemIsSound (plan : Plan) (units : List DataUnit) (place : ℕ) (s : SystemState) : Type 0 where
  pub stands_at : s.place ≡ place
  pub declared : slice_get plan.systems place ≡ Some s.configuration
  pub hold : s.hold ≡ plan.limits.hold
  pub reuse : s.identifiers.reuse ≡ plan.limits.reuse
  pub uses : AreUsesUntil s.moment s.identifiers.uses
  pub accounted : (u : DataUnit) → Contains units u → u.maker ≡ DeclaredAt place → IsAccounted s.moment s.identifiers u
  pub buffers : AllByRecursion (BufferIsSound plan units) s.buffers
  pub not_due : AllByRecursion (λ (buffer : Buffer Packet). s.moment < buffer.deadline) s.buffers
  pub not_whole : AllByRecursion (λ (buffer : Buffer Packet). is_whole buffer ≡ false) s.buffers
  pub budget : held s.buffers ≤ s.configuration.settings.budget
  pub known : KnowsAddresses s
  -- its ports and routes are as they should be, and no port came or went
  pub attached : IsAttached s.attached
  pub ports : length s.attached.ports ≡ length s.configuration.ports

-- What holds of a request that the system at a place still waits to be answered: it made it, and was not restarted since.
pub record IsPending (past : List Entry) (units : List DataUnit) (place : ℕ) (name : List ℕ) (request : DataUnit) : Type 0 where
  pub made : Contains units request
  pub maker : request.maker ≡ DeclaredAt place
  pub kind : request.kind ≡ Erq
  pub since : RequestedSinceRestart past name request.number request.source request.destination

-- A system is sound, and its requests are pending since entries, among the units that were made in these.
pub record SystemStands (plan : Plan) (past : List Entry) (before units : List DataUnit) (place : ℕ) (s : SystemState) : Type 0 where
  pub sound : SystemIsSound plan units place s
  pub pending : AllByRecursion (IsPending past before place s.configuration.name) s.pending

-- What holds of the units together.
pub record UnitsAreSound (plan : Plan) (past : List Entry) (units : List DataUnit) : Type 0 where
  pub each : AllByRecursion (UnitIsSound plan past units) units
  pub rest : EachRests plan.limits.reuse units

-- the systems are those of the plan, and each is sound
pub record SystemsAreSound (plan : Plan) (past : List Entry) (units : List DataUnit) (systems : List SystemState) : Type 0 where
  pub number : length systems ≡ length plan.systems
  pub each : (place : ℕ) (s : SystemState) → slice_get systems place ≡ Some s
      → SystemStands plan past units units place s

-- What holds of a network beside the entries that led to it. That any two clocks stand no further apart than they may is the one
-- part that compares a clock with another.
pub record WorldIsSound (plan : Plan) (past : List Entry) (w : LabelledNetwork) : Type 0 where
  pub made : UnitsAreSound plan past w.units
  pub copies : AllByRecursion (CopyIsSound w.units) w.copies
  pub systems : SystemsAreSound plan past w.units w.systems
  pub together : AreTogether plan.limits.skew (clocks_of w)
  pub mtus : AllByRecursion (IsWithin 512 65535) w.mtus

-- So it is, each segment that a system keeps stands in a copy, and each error report is of a packet that does.
pub record NetworkIsSound (plan : Plan) (past : List Entry) (w : LabelledNetwork) : Type 0 where
  pub world : WorldIsSound plan past w
  pub kept : KeepsWhatCame w
  pub reports : ReportsStand w
