-- What a safe run is: each data unit handed up is one that was sent before, and no system holds more octets for
-- reassembly than it may.
use Rattle.std.specs.Prelude.{true, ◌≡◌, ◌≢◌, ℕ, ◌+◌, ◌≤◌, ◌⊎◌, List, [], ◌∷◌, ◌++◌, slice_get, Option, Some, AllPairs}
use Rattle.clnp_plan.specs.declared.config.Limits.{Limits}
use Rattle.clnp_plan.specs.Journal.{Line, Noted}
use Rattle.clnp_plan.specs.declared.note.Note.TheVariants.{Sent, Refused, Got, Report, Echoed, Interference, Alien, Restart}
use Rattle.clnp_plan.specs.ScenarioPlan.Plan.{Plan, octets_of}
use Rattle.clnp_plan.specs.declared.scenario_plan.event.Event.{Event}
use Rattle.clnp_plan.specs.declared.scenario_plan.event.Event.TheVariants.{Send}
use Rattle.clnp_plan.specs.declared.scenario_plan.event.Move.{Move}
use Rattle.clnp_plan.specs.declared.scenario_plan.event.Move.TheVariants.{One, SettleOne, LoseOne, TickOne, TickSystem}
use Rattle.clnp_plan.specs.Pdus.declared.pdu_header.kind.Kind.TheVariants.{Er, Erq, Erp}
use Rattle.clnp_plan.specs.PduHeader.Rules.{header_of}
use Rattle.clnp_plan.specs.PduHeader.Spelling.{header_length}
use Rattle.pdus.specs.MadePdus.Match.{Echoes}
use Rattle.pdus.specs.EsisPdus.Grammar.{IsPdu}
use Rattle.clnp_machine.specs.Content.{Labelled, Esis, Unlabelled, Content, frame_of}
use Rattle.clnp_machine.specs.Unit.{DataUnit, DeclaredAt, Packet, value_of, wire}
use Rattle.clnp_machine.specs.Local.{header_size, is_own, offered}
use Rattle.clnp_machine.specs.System.{SystemState}
use Rattle.clnp_machine.specs.EveryStep.{BreaksNoEsisRule, BreaksNoRule, IsRangeOf, IsRedirectFor, IsReportOf, KeepsNextHops, segments_in}
use Rattle.clnp_machine.specs.Told.{NotesNoRule}
use Rattle.system_tables.specs.Reassembly.Arrival.{Arrival}
use Rattle.clnp_machine.specs.ClnpNetwork.LabelledNetwork.{Copy, Numbered, LabelledNetwork, after, give}
use Rattle.clnp_machine.specs.ClnpNetwork.Run.{Entry}
use Rattle.system_tables.specs.Reassembly.Buffer.{Buffer, held}
use Rattle.std.specs.List.{AllByRecursion, Contains}

-- some line says that a unit from here to there was handed up with these octets
abbrev pub HandsUp : List Line → List ℕ → List ℕ → List ℕ → Type 0
HandsUp [] from to octets = ⊥
HandsUp (Noted now name (Got source destination handed) ∷ lines) from to octets =
    ((source ≡ from) × (destination ≡ to) × (handed ≡ octets)) ⊎ HandsUp lines from to octets
HandsUp (_ ∷ lines) from to octets = HandsUp lines from to octets

-- no line says that a unit wasn't made
abbrev pub NoRefusal : List Line → Type 0
NoRefusal [] = Unit {0}
NoRefusal (Noted now name (Refused why value) ∷ lines) = ⊥
NoRefusal (_ ∷ lines) = NoRefusal lines

-- the event asks for these octets to be sent from here to there
abbrev pub AsksFor : Option Event → List ℕ → List ℕ → List ℕ → Type 0
AsksFor (Some (Send system source destination body ask)) from to octets =
    (source ≡ from) × (destination ≡ to) × (octets_of body ≡ octets)
AsksFor _ from to octets = ⊥

-- the move is the event that asks for these octets to be sent
abbrev pub IsSend : Plan → Move → List ℕ → List ℕ → List ℕ → Type 0
IsSend plan (One place) from to octets = AsksFor (slice_get plan.events place) from to octets
IsSend plan SettleOne from to octets = ⊥
IsSend plan LoseOne from to octets = ⊥
IsSend plan TickOne from to octets = ⊥
IsSend plan (TickSystem place) from to octets = ⊥

-- one of the entries sent these octets from here to there, and wasn't refused
abbrev pub WasSent : Plan → List Entry → List ℕ → List ℕ → List ℕ → Type 0
WasSent plan [] from to octets = ⊥
WasSent plan (entry ∷ entries) from to octets =
    (IsSend plan entry.move from to octets × NoRefusal entry.lines) ⊎ WasSent plan entries from to octets

-- whatever one of the later entries hands up was sent by an entry before it
abbrev pub EachWasSent : Plan → List Entry → List Entry → Type 0
EachWasSent plan past [] = Unit {0}
EachWasSent plan past (entry ∷ later) =
    ((from to octets : List ℕ) → HandsUp entry.lines from to octets → WasSent plan past from to octets)
    × EachWasSent plan (past ++ entry ∷ []) later

-- the run hands up only what it sent before
abbrev pub IsHonest : Plan → List Entry → Type 0
IsHonest plan entries = EachWasSent plan [] entries

-- one of some copies carries a packet, with what follows it in its frame
pub record StandsInCopy (copies : List Copy) (p : Packet) (following : List ℕ) : Type 0 where
  pub copy : Copy
  pub there : Contains copies copy
  pub carries : copy.content ≡ Labelled p following

-- no system of the network holds more octets for reassembly than its budget
abbrev pub IsWithinBudgets : LabelledNetwork → Type 0
IsWithinBudgets w = AllByRecursion (λ system. held system.buffers ≤ system.configuration.settings.budget) w.systems

-- a packet's hops and its lifetime are together at most its unit's lifetime
abbrev pub MeetsLifetime : Content → Type 0
MeetsLifetime (Labelled packet following) = packet.hops + packet.lifetime ≤ packet.unit.lifetime
MeetsLifetime (Esis value following) = Unit {0}
MeetsLifetime (Unlabelled octets) = Unit {0}

-- no PDU of the network was forwarded more often than its lifetime allowed
abbrev pub IsWithinLifetimes : LabelledNetwork → Type 0
IsWithinLifetimes w = AllByRecursion (λ copy. MeetsLifetime copy.content) w.copies

-- one of some copies carries the packet from which one went on: of the same unit, with one hop less, of which it is a range
pub record WentOn (copies : List Copy) (p : Packet) : Type 0 where
  pub came : Packet
  pub following : List ℕ
  pub stands : StandsInCopy copies came following
  pub unit : p.unit ≡ came.unit
  pub hops : p.hops ≡ came.hops + 1
  pub from : came.offset ≤ p.offset
  pub to : p.offset + p.length ≤ came.offset + came.length

-- a packet wasn't forwarded, or went on from one in a copy
abbrev pub HasItsHops : List Copy → Content → Type 0
HasItsHops copies (Labelled packet following) = (packet.hops ≡ 0) ⊎ WentOn copies packet
HasItsHops copies (Esis value following) = Unit {0}
HasItsHops copies (Unlabelled octets) = Unit {0}

-- so it is of each packet on the network
abbrev pub HopsCountCopies : LabelledNetwork → Type 0
HopsCountCopies w = AllByRecursion (λ copy. HasItsHops w.copies copy.content) w.copies

-- the header of a packet is as long as that of its unit's initial PDU
abbrev pub KeepsHeader : Content → Type 0
KeepsHeader (Labelled packet following) = header_length (value_of packet) ≡ header_size packet.unit
KeepsHeader (Esis value following) = Unit {0}
KeepsHeader (Unlabelled octets) = Unit {0}

-- each packet of the network has such a header, however often it was cut and forwarded
abbrev pub KeepsHeaders : LabelledNetwork → Type 0
KeepsHeaders w = AllByRecursion (λ copy. KeepsHeader copy.content) w.copies

-- A frame carries a range of a unit that was made, and its copy is as old as the unit; or it carries an ES-IS value that a PDU
-- can carry. Nothing is behind its PDU.
abbrev pub RangeIn : List DataUnit → (birth : ℕ) → Content → Type 0
RangeIn units birth (Labelled packet following) = IsRangeOf units packet × (following ≡ []) × (birth ≡ packet.unit.made)
RangeIn units birth (Esis value following) = IsPdu value × (following ≡ [])
RangeIn units birth (Unlabelled octets) = ⊥

-- each frame on the network does
abbrev pub CarriesRanges : LabelledNetwork → Type 0
CarriesRanges w = AllByRecursion (λ copy. RangeIn w.units copy.birth copy.content) w.copies

-- a frame carries a packet, and breaks no rule of PDUs; or it carries an ES-IS value with nothing behind it, and breaks none
-- of ES-IS PDUs
abbrev pub IsUnbroken : Content → Type 0
IsUnbroken (Labelled packet following) = BreaksNoRule (frame_of (Labelled packet following))
IsUnbroken (Esis value following) = BreaksNoEsisRule (frame_of (Esis value following)) × (following ≡ [])
IsUnbroken (Unlabelled octets) = ⊥

-- each frame on the network does
abbrev pub FramesAreUnbroken : LabelledNetwork → Type 0
FramesAreUnbroken w = AllByRecursion (λ copy. IsUnbroken copy.content) w.copies

-- a segment is kept as the packet in one of some copies was offered
pub record CameInCopy (copies : List Copy) (arrival : Arrival Packet) : Type 0 where
  pub following : List ℕ
  pub is_offered : arrival ≡ offered arrival.carried following
  pub stands : StandsInCopy copies arrival.carried following

-- each segment that a system keeps came in a copy
abbrev pub KeepsWhatCame : LabelledNetwork → Type 0
KeepsWhatCame w = AllByRecursion (λ system. AllByRecursion (CameInCopy w.copies) (segments_in system.buffers)) w.systems

-- a segment is of a unit, and stands in one of some copies
pub record IsSegmentOf (copies : List Copy) (u : DataUnit) (arrival : Arrival Packet) : Type 0 where
  pub unit : arrival.carried.unit ≡ u
  pub stands : StandsInCopy copies arrival.carried []

-- all segments of a buffer are of one unit that was made
abbrev pub HoldsOneUnit : List DataUnit → List Copy → Buffer Packet → Type 0
HoldsOneUnit units copies buffer = (u : DataUnit) × Contains units u × AllByRecursion (IsSegmentOf copies u) buffer.kept

-- each buffer of each system does
abbrev pub HoldsUnitsApart : LabelledNetwork → Type 0
HoldsUnitsApart w = AllByRecursion (λ system. AllByRecursion (HoldsOneUnit w.units w.copies) system.buffers) w.systems

-- of two units of one maker with one identifier the later was made so much later
abbrev pub Rests : ℕ → (earlier later : DataUnit) → Type 0
Rests reuse earlier later =
    earlier.maker ≡ later.maker → (identifier : ℕ) → earlier.identifier ≡ Some identifier
    → later.identifier ≡ Some identifier
    → earlier.made + reuse ≤ later.made

abbrev pub IdentifiersRest : ℕ → LabelledNetwork → Type 0
IdentifiersRest reuse w = AllPairs (Rests reuse) w.units

-- no segment of a unit meets another unit's in a buffer
abbrev pub NoInterference : List Line → Type 0
NoInterference [] = Unit {0}
NoInterference (Noted now name (Interference id) ∷ lines) = ⊥
NoInterference (_ ∷ lines) = NoInterference lines

-- no line says that a frame belonged to no protocol
abbrev pub NoneIsAlien : List Line → Type 0
NoneIsAlien [] = Unit {0}
NoneIsAlien (Noted now name Alien ∷ lines) = ⊥
NoneIsAlien (_ ∷ lines) = NoneIsAlien lines

-- a line doesn't say that a frame was discarded for a rule of PDUs, or broke one of ES-IS PDUs
abbrev pub TellsNoRule : Line → Type 0
TellsNoRule (Noted now name note) = NotesNoRule note
TellsNoRule _ = Unit {0}

-- Redirects.

-- Of the systems of a network only the one at a place is another one afterwards, and that one sends as before to each address but
-- one.
pub record ChangesOneNextHop (destination : List ℕ) (place : ℕ) (before after : LabelledNetwork) : Type 0 where
  pub others : (other : ℕ) → (other ≡ place → ⊥) → slice_get after.systems other ≡ slice_get before.systems other
  pub there : (s : SystemState) → slice_get before.systems place ≡ Some s
      → (t : SystemState) × (slice_get after.systems place ≡ Some t) × KeepsNextHops destination s t

-- Where a copy that carries a redirect is given to a system of a network, it changes the next hop towards the redirect's
-- destination alone, and no other system (ISO 9542, section 6.9).
abbrev pub RedirectsChangeOneNextHop : Limits → LabelledNetwork → Type 0
RedirectsChangeOneNextHop limits w =
    (given : Numbered) (place : ℕ) (destination : List ℕ) → IsRedirectFor destination given.copy.content
    → ChangesOneNextHop destination place w (give limits given w place).world

-- Error reports and echoes.

-- a unit was made by the system of a place
pub record IsMadeAt (w : LabelledNetwork) (place : ℕ) (system : SystemState) (u : DataUnit) : Type 0 where
  pub made : Contains w.units u
  pub maker : u.maker ≡ DeclaredAt place
  pub there : slice_get w.systems place ≡ Some system

-- a unit is the report of the discard of a packet that stands in one of some copies, and goes to the packet's source
pub record ReportsOnCopy (copies : List Copy) (u : DataUnit) : Type 0 where
  pub packet : Packet
  pub following : List ℕ
  pub stands : StandsInCopy copies packet following
  pub report : IsReportOf (wire packet) u
  pub source : packet.unit.source ≡ u.destination

-- each error report that was made is one
abbrev pub ReportsStand : LabelledNetwork → Type 0
ReportsStand w = AllByRecursion (λ (u : DataUnit). u.kind ≡ Er → ReportsOnCopy w.copies u) w.units

-- octets are the header of the PDU of a packet of a unit that the system with a name made; a copy carries the packet
pub record IsHeaderOfOwn (w : LabelledNetwork) (name octets : List ℕ) : Type 0 where
  pub place : ℕ
  pub system : SystemState
  pub packet : Packet
  pub made : IsMadeAt w place system packet.unit
  pub named : system.configuration.name ≡ name
  pub range : IsRangeOf w.units packet
  pub stands : StandsInCopy w.copies packet []
  pub header : octets ≡ header_of (wire packet)

-- a line says that the system with a name made an echo request of this number, from one address to another
abbrev pub SaysRequested : (name : List ℕ) (number : ℕ) (from to : List ℕ) → Line → Type 0
SaysRequested name number from to (Noted now maker (Sent Erq made id source destination len)) =
    (maker ≡ name) × (made ≡ number) × (source ≡ from) × (destination ≡ to)
SaysRequested name number from to _ = ⊥

-- a line doesn't say that the system with a name was restarted
abbrev pub SaysNoRestart : (name : List ℕ) → Line → Type 0
SaysNoRestart name (Noted now restarted Restart) = restarted ≢ name
SaysNoRestart name _ = Unit {0}

-- one of the entries made such a request, and the system was not restarted in those after it
abbrev pub RequestedSinceRestart : List Entry → (name : List ℕ) (number : ℕ) (from to : List ℕ) → Type 0
RequestedSinceRestart [] name number from to = ⊥
RequestedSinceRestart (entry ∷ later) name number from to =
    (((line : Line) × Contains entry.lines line × SaysRequested name number from to line)
    × AllByRecursion (λ (other : Entry). AllByRecursion (SaysNoRestart name) other.lines) later)
    ⊎ RequestedSinceRestart later name number from to

-- An echo reply from one address to another came for the request of a number that the system with a name made: the request was
-- made since its last restart, with the two addresses exchanged; the reply is a unit that an owner of its source made, and its
-- data answer the request (RFC 1575).
pub record IsAnswered (w : LabelledNetwork) (past : List Entry) (name from to : List ℕ) (number : ℕ) : Type 0 where
  pub since : RequestedSinceRestart past name number to from
  pub place : ℕ
  pub system : SystemState
  pub request : DataUnit
  pub requested : IsMadeAt w place system request
  pub named : system.configuration.name ≡ name
  pub request_kind : request.kind ≡ Erq
  pub request_number : request.number ≡ number
  pub request_source : request.source ≡ to
  pub request_destination : request.destination ≡ from
  pub owner_place : ℕ
  pub owner : SystemState
  pub reply : DataUnit
  pub replied : IsMadeAt w owner_place owner reply
  pub owns : is_own owner from ≡ true
  pub reply_kind : reply.kind ≡ Erp
  pub reply_source : reply.source ≡ from
  pub reply_destination : reply.destination ≡ to
  pub answers : Echoes request.octets reply.octets

-- what a line says of error reports and echo replies that came to a system is founded on what the system made
abbrev pub IsFounded : LabelledNetwork → List Entry → Line → Type 0
IsFounded w past (Noted now name (Report from to reason place octets)) = IsHeaderOfOwn w name octets
IsFounded w past (Noted now name (Echoed from to number)) = IsAnswered w past name from to number
IsFounded w past _ = Unit {0}

-- so is each line of some moves
abbrev pub EachIsFounded : Plan → LabelledNetwork → List Entry → List Move → Type 0
EachIsFounded plan w past [] = Unit {0}
EachIsFounded plan w past (move ∷ moves) =
    AllByRecursion (IsFounded w past) (after plan w move).lines
    × EachIsFounded plan (after plan w move).world (past ++ record { move = move; lines = (after plan w move).lines } ∷ []) moves
