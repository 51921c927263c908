-- What becomes of a packet that comes, of a unit that is made and of a segment that is kept: none vanishes without a note.
use Rattle.std.specs.Prelude.{All, Bool, ◌≡◌, ◌≢◌, ◌⊎◌, ℕ, ◌+◌, ◌≤◌, true, false, List, [], ◌∷◌, ◌++◌, map, slice_get, None, Some}
use Rattle.std.specs.List.{AllByRecursion, Contains, range_with_len}
use Rattle.pdus.specs.MadePdus.Range.{Partition, Range, Tiles}
use Rattle.clnp_plan.specs.Pdus.declared.pdu_header.kind.Kind.{Kind}
use Rattle.clnp_plan.specs.Pdus.declared.pdu_header.kind.Kind.TheVariants.{Dt, Er, Erq, Erp}
use Rattle.system_tables.specs.declared.reassembly.segment.Key.{Key}
use Rattle.system_tables.specs.Reassembly.Arrival.{Arrival, are_covered, data_len, earliest, same_key}
use Rattle.system_tables.specs.Reassembly.Buffer.{Buffer, buffer_of, held, kept_in, octet_by}
use Rattle.clnp_plan.specs.ClnpOptions.Edits.{target_of}
use Rattle.clnp_plan.specs.Nsap.Address.{IsAddress}
use Rattle.clnp_plan.specs.Configuration.{IsPort, IsSystem}
use Rattle.clnp_plan.specs.declared.ask.Ask.{Ask}
use Rattle.clnp_plan.specs.declared.config.PortConfig.{PortConfig}
use Rattle.clnp_plan.specs.declared.config.Role.TheVariants.{Host, Router}
use Rattle.clnp_plan.specs.declared.note.Note.{Note}
use Rattle.clnp_plan.specs.declared.note.Note.TheVariants.{Alien, BadEsis, Crowded, Discard, Echoed, Expired, Got, Held, Interference, Many, NoSlot, NotMine, Refused, Repeat, Report, Restart, Stray}
use Rattle.clnp_plan.specs.declared.note.Why.{Why}
use Rattle.clnp_machine.specs.Unit.{DataUnit, IsCarriable, Packet, cut, value_of, whole_packet, wire}
use Rattle.clnp_machine.specs.Content.{Labelled, Unlabelled}
use Rattle.clnp_machine.specs.System.{SystemState, Input, AsksForEcho, AsksToSend, FrameComes, IsRestarted, MomentComes, Output, Notes, Effect}
use Rattle.clnp_machine.specs.Local.{at_moment, is_own, octet_of, offered, sent_note}
use Rattle.clnp_machine.specs.Step.{Hop, Way, forwarded, loss_at, no_way_to, options_behind, step, transmissions, unit_hop, way_of}
use Rattle.clnp_machine.specs.EveryStep.{ComesWith, GoesOnFrom, IsAtMostReportOf, IsFair, KeepsAsOffered, OnlyHellos, SendsRangesOf, moment_after, segments_in, sends_esis}
use Rattle.clnp_machine.specs.Due.{HasEnded}
use Rattle.clnp_machine.specs.Ways.{GoesItsWay, IsAllOfItsUnit, IsAllowedWay, IsOnRoute, aim_of}

-- Packets that are all of one.

-- the places of a packet's data among those of its unit
abbrev pub range_of : Packet → Range
range_of p = record { from = p.offset; len = p.length }

-- Packets are together all of one: there is at least one of them; each octet of that one's data is in exactly one, and they
-- have no others; they stand in the order of the data, and are of its unit (ISO 8473, section 6.7).
pub record AreAllOf (p : Packet) (pieces : List Packet) : Type 0 where
  pub some : pieces ≢ []
  pub once : Partition (map range_of pieces) (range_of p)
  pub in_order : Tiles p.offset (map range_of pieces) (p.offset + p.length)
  pub unit : AllByRecursion (λ piece. piece.unit ≡ p.unit) pieces

-- Units that are made.

-- a packet that is sent first: nobody forwarded it, and it has the lifetime and the options of its unit
pub record IsFirstSent (p : Packet) : Type 0 where
  pub hops : p.hops ≡ 0
  pub lifetime : p.lifetime ≡ p.unit.lifetime
  pub options : p.options ≡ p.unit.options

-- a unit is sent to its next hop, in packets that are all of it
pub record IsSent (s : SystemState) (u : DataUnit) (given : List Output) : Type 0 where
  pub hop : Hop
  pub known : unit_hop s u ≡ Some hop
  pub pieces : List Packet
  pub sent : given ≡ transmissions hop (Some pieces)
  pub all : AreAllOf (whole_packet u) pieces
  pub first : AllByRecursion IsFirstSent pieces

-- there is no way for a unit, by a port that is there
abbrev pub HasNoWay : SystemState → DataUnit → Type 0
HasNoWay s u = (hop : Hop) → unit_hop s u ≡ Some hop → slice_get s.attached.ports hop.port ≡ None

-- a unit is too long for the port by which it would go, and may not be cut
pub record IsTooLong (s : SystemState) (u : DataUnit) : Type 0 where
  pub hop : Hop
  pub known : unit_hop s u ≡ Some hop
  pub port : PortConfig
  pub there : slice_get s.attached.ports hop.port ≡ Some port
  pub uncut : cut (whole_packet u) port.mtu ≡ None

-- What is given out for a unit: it is sent, or its discard is noted, with the reason (ISO 8473, sections 6.9 and 7.9.5).
abbrev pub IsSentOrDropped : SystemState → DataUnit → List Output → Type 0
IsSentOrDropped s u given =
    IsSent s u given
    ⊎ (HasNoWay s u × (given ≡ Notes (Discard 0x81 0) ∷ []))
    ⊎ (IsTooLong s u × (given ≡ Notes (Discard 0x05 0) ∷ []))

-- one unit is made, of a kind, from one address to another, with these octets; it is noted, and then sent or dropped
pub record MakesUnit (s : SystemState) (kind : Kind) (from to octets : List ℕ) (effect : Effect) : Type 0 where
  pub unit : DataUnit
  pub made : effect.units ≡ unit ∷ []
  pub kind_is : unit.kind ≡ kind
  pub source : unit.source ≡ from
  pub destination : unit.destination ≡ to
  pub octets_are : unit.octets ≡ octets
  pub given : List Output
  pub told : effect.outputs ≡ Notes (sent_note unit) ∷ given
  pub goes : IsSentOrDropped s unit given

-- no unit is made, and it is noted why
pub record RefusesUnit (effect : Effect) : Type 0 where
  pub why : Why
  pub value : ℕ
  pub told : effect.outputs ≡ Notes (Refused why value) ∷ []
  pub unmade : effect.units ≡ []

abbrev pub MakesOrRefuses : SystemState → Kind → (from to octets : List ℕ) → Effect → Type 0
MakesOrRefuses s kind from to octets effect = MakesUnit s kind from to octets effect ⊎ RefusesUnit effect

-- among some outputs are those for a unit, one behind another
pub record GivesOutFor (s : SystemState) (outputs : List Output) (u : DataUnit) : Type 0 where
  pub before : List Output
  pub given : List Output
  pub behind : List Output
  pub among : outputs ≡ before ++ given ++ behind
  pub goes : IsSentOrDropped s u given

-- Packets that come.

-- A router sends all of a packet on to one place, each piece forwarded once more; a redirect may follow; nothing changes, and no
-- unit is made (ISO 8473, sections 6.5 to 6.7).
pub record SendsAllOn (s : SystemState) (p : Packet) (effect : Effect) : Type 0 where
  pub router : s.configuration.role ≡ Router
  pub hop : Hop
  pub pieces : List Packet
  pub behind : List Output
  pub given : effect.outputs ≡ transmissions hop (Some pieces) ++ behind
  pub all : AreAllOf p pieces
  pub way : GoesItsWay s p hop.port hop.target
  pub onward : AllByRecursion (GoesOnFrom s hop.port p) pieces
  pub redirects : AllByRecursion (λ output. sends_esis output ≡ true) behind
  pub same : effect.after ≡ s
  pub unmade : effect.units ≡ []

-- Why a packet can't go on by a port, with the octet of the reason (ISO 8473, section 7.9.5): its lifetime ends on the way there,
-- or it is too long for the port, and may not be cut.
abbrev pub CannotPass : SystemState → Packet → PortConfig → (reason : ℕ) → Type 0
CannotPass s p port reason =
    ((p.lifetime ≤ loss_at port) × (reason ≡ 0xa0))
    ⊎ ((cut (forwarded p (loss_at port) (options_behind s p.options)) port.mtu ≡ None) × (reason ≡ 0x05))

-- why it can't go on by a way: another system stands before the next one of its route, or the port isn't there, or it can't
-- go on by the port
abbrev pub CannotGoBy : SystemState → Packet → Way → (reason : ℕ) → Type 0
CannotGoBy s p way reason =
    (¬ (IsAllowedWay s p way) × (reason ≡ 0x93))
    ⊎ ((slice_get s.attached.ports way.neighbour.port ≡ None) × (reason ≡ 0x81))
    ⊎ ((port : PortConfig) × (slice_get s.attached.ports way.neighbour.port ≡ Some port) × CannotPass s p port reason)

-- why a router can't send it on: its route doesn't lead here, or no way is known to its aim, or it can't go on by the way
abbrev pub CannotGoOn : SystemState → Packet → (reason : ℕ) → Type 0
CannotGoOn s p reason =
    (¬ (IsOnRoute s p) × (reason ≡ 0x93))
    ⊎ ((way_of s (aim_of s p) ≡ None) × (reason ≡ no_way_to (target_of (options_behind s p.options))))
    ⊎ ((way : Way) × (way_of s (aim_of s p) ≡ Some way) × CannotGoBy s p way reason)

-- why a packet is discarded that isn't for the system: its lifetime is over, or a router can't send it on
abbrev pub IsStopped : SystemState → Packet → (reason : ℕ) → Type 0
IsStopped s p reason =
    ((p.lifetime ≡ 0) × (reason ≡ 0xa0))
    ⊎ ((s.configuration.role ≡ Router) × (is_own s p.unit.destination ≡ false) × CannotGoOn s p reason)

-- why there is no room for a segment
abbrev pub TellsOfRoom : Note → Type 0
TellsOfRoom told =
    ((live : ℕ) × (told ≡ NoSlot live))
    ⊎ ((held : ℕ) × (size : ℕ) × (told ≡ Crowded held size))
    ⊎ ((kept : ℕ) × (told ≡ Many kept))

-- what is noted before the discard of a segment for a reason: it meets another unit's, or there is no room for it
abbrev pub TellsCause : (reason : ℕ) → Note → Type 0
TellsCause reason told =
    ((id : ℕ) × (told ≡ Interference id) × (reason ≡ 0xc0)) ⊎ (TellsOfRoom told × (reason ≡ 0x03))

-- a discard is noted with its reason: of a packet that is stopped alone, and of a segment for the system behind its cause
abbrev pub TellsOfDiscard : SystemState → Packet → (reason : ℕ) → (told : List Output) → Type 0
TellsOfDiscard s p reason told =
    ((told ≡ Notes (Discard reason 0) ∷ []) × IsStopped s p reason)
    ⊎ ((cause : Note)
    × (told ≡ Notes cause ∷ Notes (Discard reason 0) ∷ [])
    × TellsCause reason cause
    × (is_own s p.unit.destination ≡ true))

-- A packet is discarded: that is noted with its reason, at most its report is made and given out, and what is kept stays (ISO
-- 8473, sections 6.9 and 6.10).
pub record DropsPacket (s : SystemState) (p : Packet) (following : List ℕ) (effect : Effect) : Type 0 where
  pub reason : ℕ
  pub told : List Output
  pub report : List Output
  pub given : effect.outputs ≡ told ++ report
  pub tells : TellsOfDiscard s p reason told
  pub sent : AllByRecursion (SendsRangesOf effect.units) report
  pub reported : IsAtMostReportOf (wire p ++ following) effect.units
  pub kept : effect.after.buffers ≡ s.buffers

-- What is given out where all data of a unit are there: they are handed up; those of an error report with its reason and place; an
-- echo request is answered by a reply with its data, which goes the other way, or it is noted why not; an echo reply answers a
-- request, or none (RFC 1575).
abbrev pub TellsOfUnit : SystemState → Kind → (from to octets : List ℕ) → Effect → Type 0
TellsOfUnit s Dt from to octets effect = effect.outputs ≡ Notes (Got from to octets) ∷ []
TellsOfUnit s Er from to octets effect =
    (reason : ℕ) × (place : ℕ) × (effect.outputs ≡ Notes (Report from to reason place octets) ∷ [])
TellsOfUnit s Erq from to octets effect = MakesOrRefuses s Erp to from octets effect
TellsOfUnit s Erp from to octets effect =
    ((number : ℕ) × (effect.outputs ≡ Notes (Echoed from to number) ∷ [])) ⊎ (effect.outputs ≡ Notes (Stray from to) ∷ [])

-- the segments that are kept under the key of one that comes, and that one
abbrev pub together : List (Buffer Packet) → Arrival Packet → List (Arrival Packet)
together buffers arrival = kept_in (buffer_of arrival.key buffers) ++ arrival ∷ []

-- A segment makes its unit whole: with those that are kept under its key it has each place of the unit's data, and the octet there
-- is that of the earliest that has it (ISO 8473, section 6.8).
pub record MakesWhole (buffers : List (Buffer Packet)) (arrival : Arrival Packet) (octets : List ℕ) : Type 0 where
  pub all : are_covered (together buffers arrival) 0 (data_len arrival.shape) ≡ true
  pub data_are :
      octets ≡ map (λ place. octet_by octet_of place (earliest (together buffers arrival) place))
      (range_with_len 0 (data_len arrival.shape))

-- A packet for the system is all of its unit, or makes it whole, and that is told with the unit's data.
pub record HandsUpUnit (s : SystemState) (p : Packet) (following : List ℕ) (effect : Effect) : Type 0 where
  pub own : is_own s p.unit.destination ≡ true
  pub octets : List ℕ
  pub whole : (IsAllOfItsUnit p × (octets ≡ (value_of p).body)) ⊎ MakesWhole s.buffers (offered p following) octets
  pub told : TellsOfUnit s p.unit.kind p.unit.source p.unit.destination octets effect

-- a segment for the system is kept, and noted
pub record KeepsSegment (s : SystemState) (p : Packet) (following : List ℕ) (effect : Effect) : Type 0 where
  pub own : is_own s p.unit.destination ≡ true
  pub there : Contains (segments_in effect.after.buffers) (offered p following)
  pub told : effect.outputs ≡ Notes (Held (offered p following).key.id p.offset (held effect.after.buffers)) ∷ []
  pub unmade : effect.units ≡ []

-- a segment for the system has no octet that isn't kept already, which is noted
pub record KeptBefore (s : SystemState) (p : Packet) (following : List ℕ) (effect : Effect) : Type 0 where
  pub own : is_own s p.unit.destination ≡ true
  pub covered : are_covered (kept_in (buffer_of (offered p following).key s.buffers)) p.offset p.length ≡ true
  pub told : effect.outputs ≡ Notes (Repeat (offered p following).key.id p.offset) ∷ []
  pub same : effect.after ≡ s
  pub unmade : effect.units ≡ []

-- a packet for another address comes to a host, which notes that
pub record LeavesPacket (s : SystemState) (p : Packet) (effect : Effect) : Type 0 where
  pub host : s.configuration.role ≡ Host
  pub other : is_own s p.unit.destination ≡ false
  pub told : effect.outputs ≡ Notes (NotMine p.unit.destination) ∷ []
  pub same : effect.after ≡ s
  pub unmade : effect.units ≡ []

-- what may become of a packet that comes
pub data Fate : Type 0 where
  GoesOn : Fate
  IsDropped : Fate
  IsHandedUp : Fate
  IsKept : Fate
  WasKept : Fate
  IsLeft : Fate

abbrev pub Meets : SystemState → Packet → (following : List ℕ) → Effect → Fate → Type 0
Meets s p following effect GoesOn = SendsAllOn s p effect
Meets s p following effect IsDropped = DropsPacket s p following effect
Meets s p following effect IsHandedUp = HandsUpUnit s p following effect
Meets s p following effect IsKept = KeepsSegment s p following effect
Meets s p following effect WasKept = KeptBefore s p following effect
Meets s p following effect IsLeft = LeavesPacket s p effect

-- exactly one of them becomes of it
pub record HasOneFate (s : SystemState) (p : Packet) (following : List ℕ) (effect : Effect) : Type 0 where
  pub fate : Fate
  pub met : Meets s p following effect fate
  pub one : (other : Fate) → Meets s p following effect other → other ≡ fate

-- an effect is another one, and then at most what is said between systems
pub record EndsWithHellos (first whole : Effect) : Type 0 where
  pub hellos : Effect
  pub only : OnlyHellos first.after hellos
  pub after : whole.after ≡ hellos.after
  pub outputs : whole.outputs ≡ first.outputs ++ hellos.outputs
  pub units : whole.units ≡ first.units

-- a packet that comes in a frame has one fate; a host that was asked for may tell of itself then
pub record HasOneFateInFrame (s : SystemState) (p : Packet) (following : List ℕ) (whole : Effect) : Type 0 where
  pub first : Effect
  pub fate : HasOneFate s p following first
  pub hellos : EndsWithHellos first whole

-- octets that spell no PDU are told of: they are discarded, alien, or break a rule of ES-IS PDUs
abbrev pub TellsOfOctets : List Output → Type 0
TellsOfOctets (Notes (Discard reason place) ∷ report) = Unit {0}
TellsOfOctets (Notes Alien ∷ []) = Unit {0}
TellsOfOctets (Notes (BadEsis rule place) ∷ []) = Unit {0}
TellsOfOctets _ = ⊥

-- Segments that are kept.

-- the segment that comes is kept in a buffer, behind those that are there
pub record GainsSegment (input : Input) (after : List (Buffer Packet)) (buffer : Buffer Packet) : Type 0 where
  pub arrival : Arrival Packet
  pub comes : ComesWith input arrival
  pub same : same_key buffer.key arrival.key ≡ true
  pub there : Contains after (record buffer { kept = buffer.kept ++ arrival ∷ [] })

-- the segment that comes makes the unit of a buffer's key whole, and that is told with the unit's data
pub record IsCompleted (s : SystemState) (input : Input) (effect : Effect) (buffer : Buffer Packet) : Type 0 where
  pub p : Packet
  pub following : List ℕ
  pub comes : ComesWith input (offered p following)
  pub same : same_key buffer.key (offered p following).key ≡ true
  pub octets : List ℕ
  pub whole : MakesWhole s.buffers (offered p following) octets
  pub first : Effect
  pub told : TellsOfUnit s p.unit.kind p.unit.source p.unit.destination octets first
  pub hellos : EndsWithHellos first effect

-- a moment comes at which the time of a buffer of the key has ended, which is noted (ISO 8473, section 6.8)
pub record IsExpired (s : SystemState) (input : Input) (effect : Effect) (buffer : Buffer Packet) : Type 0 where
  pub now : ℕ
  pub is : input ≡ MomentComes now
  pub ended : HasEnded now s.buffers buffer
  pub left : ℕ
  pub told : Contains effect.outputs (Notes (Expired buffer.key.id left))

-- the system is restarted, which is noted
pub record IsForgotten (input : Input) (effect : Effect) : Type 0 where
  pub is : input ≡ IsRestarted
  pub told : effect.outputs ≡ Notes Restart ∷ []

-- why the segments of a buffer are no longer kept
abbrev pub IsToldOf : SystemState → Input → Effect → Buffer Packet → Type 0
IsToldOf s input effect buffer =
    IsCompleted s input effect buffer ⊎ IsExpired s input effect buffer ⊎ IsForgotten input effect

-- a buffer stays as it is, or with the segment that comes; or it is told of
abbrev pub StaysOrIsTold : SystemState → Input → Effect → Buffer Packet → Type 0
StaysOrIsTold s input effect buffer =
    Contains effect.after.buffers buffer
    ⊎ GainsSegment input effect.after.buffers buffer
    ⊎ IsToldOf s input effect buffer

-- so each of its segments is still kept, or is told of
abbrev pub SegmentsStayOrAreTold : SystemState → Input → Effect → Buffer Packet → Type 0
SegmentsStayOrAreTold s input effect buffer =
    AllByRecursion (Contains (segments_in effect.after.buffers)) buffer.kept ⊎ IsToldOf s input effect buffer

-- no two buffers have one key
abbrev pub HaveOneOfEachKey : List (Buffer Packet) → Type 0
HaveOneOfEachKey [] = Unit {0}
HaveOneOfEachKey (buffer ∷ later) =
    AllByRecursion (λ other. same_key other.key buffer.key ≡ false) later × HaveOneOfEachKey later

-- a buffer is the one of its key among some
abbrev pub IsTheOneOfItsKey : List (Buffer Packet) → Buffer Packet → Type 0
IsTheOneOfItsKey buffers buffer = (key : Key) → same_key buffer.key key ≡ true → buffer_of key buffers ≡ Some buffer

-- In no step does anything vanish: a packet that comes, octets that spell no PDU, a unit that is asked for or made, and what is
-- kept.
pub record NothingVanishes : Type 0 where
  pub packets : (s : SystemState) (port : ℕ) (sender : List ℕ) (to_group : Bool) (p : Packet) (following : List ℕ)
      → AllByRecursion IsPort s.attached.ports → IsCarriable p
      → let comes = FrameComes port sender to_group (Labelled p following) in
      HasOneFateInFrame s p following (step s comes)
  pub octets : (s : SystemState) (port : ℕ) (sender : List ℕ) (to_group : Bool) (octets : List ℕ)
      → TellsOfOctets (step s (FrameComes port sender to_group (Unlabelled octets))).outputs
  pub asked : (s : SystemState) (from to octets : List ℕ) (ask : Ask) → AllByRecursion IsPort s.attached.ports
      → MakesOrRefuses s Dt from to octets (step s (AsksToSend from to octets ask))
  pub echo : (s : SystemState) (from to octets : List ℕ) → AllByRecursion IsPort s.attached.ports
      → MakesOrRefuses s Erq from to octets (step s (AsksForEcho from to octets))
  pub made : (s : SystemState) (input : Input) → IsSystem s.configuration → AllByRecursion IsPort s.attached.ports
      → IsFair input → All IsAddress s.configuration.addresses → KeepsAsOffered s
      → let effect = step s input in
      AllByRecursion (GivesOutFor (at_moment (moment_after s input) s) effect.outputs) effect.units
  pub kept : (s : SystemState) (input : Input) → AllByRecursion IsPort s.attached.ports
      → AllByRecursion (StaysOrIsTold s input (step s input)) s.buffers
  pub segments : (s : SystemState) (input : Input) → AllByRecursion IsPort s.attached.ports
      → AllByRecursion (SegmentsStayOrAreTold s input (step s input)) s.buffers
  pub one_of_a_key : (buffers : List (Buffer Packet)) → HaveOneOfEachKey buffers
      → AllByRecursion (IsTheOneOfItsKey buffers) buffers
  pub keys : (s : SystemState) (input : Input) → HaveOneOfEachKey s.buffers
      → HaveOneOfEachKey (step s input).after.buffers
