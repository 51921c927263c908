-- What is so of every step of a system.
use Rattle.std.specs.Prelude.{◌≡◌, ℕ, ◌+◌, ◌≤◌, ◌⊎◌, Bool, true, false, List, [], ◌∷◌, ◌++◌, length, map, slice_get, Option, None, Some}
use Rattle.std.specs.List.{AllByRecursion, Contains, flat_map}
use Rattle.clnp_plan.specs.ClnpOptions.Edits.{HaveOneForm}
use Rattle.clnp_plan.specs.ClnpOptions.Grammar.{FitsKind}
use Rattle.clnp_plan.specs.ClnpOptions.Parameter.{parameters}
use Rattle.clnp_plan.specs.PduHeader.Grammar.{BeginsWith}
use Rattle.clnp_plan.specs.Pdus.declared.pdu_header.kind.Kind.TheVariants.{Dt, Er, Erq, Erp}
use Rattle.clnp_plan.specs.PduHeader.Rules.{header_of, octet, refusal}
use Rattle.pdus.specs.MadePdus.Report.{source_of}
use Rattle.clnp_plan.specs.PduHeader.Value.{PduValue}
use Rattle.pdus.specs.EsisPdus.Grammar as esis
use Rattle.pdus.specs.EsisPdus.Rules as esis_rules
use Rattle.pdus.specs.EsisPdus.Grammar.{IsPdu}
use Rattle.pdus.specs.EsisPdus.Spelling.{spelling}
use Rattle.pdus.specs.EsisPdus.Value.{EsisValue}
use Rattle.pdus.specs.declared.esis_pdus.pdu.EsisBody.TheVariants.{Rd}
use Rattle.clnp_plan.specs.SystemTables.declared.esis_tables.fact.Neighbour.{Neighbour}
use Rattle.clnp_plan.specs.EsisTables.Fact.{Fact}
use Rattle.clnp_plan.specs.declared.config.Role.TheVariants.{Router}
use Rattle.clnp_plan.specs.Nsap.Address.{IsAddress}
use Rattle.clnp_plan.specs.Pdus.declared.nsap.target.Target.TheVariants.{System}
use Rattle.system_tables.specs.Reassembly.Arrival.{Arrival}
use Rattle.system_tables.specs.Reassembly.Buffer.{Buffer, held}
use Rattle.clnp_plan.specs.Asking.{IsFormedAsk}
use Rattle.clnp_plan.specs.declared.config.PortConfig.{PortConfig}
use Rattle.clnp_plan.specs.declared.note.Note.{Note}
use Rattle.clnp_plan.specs.declared.note.Note.TheVariants.{Echoed, Gone, Got, Hear, Ignored, Port, Report, Restart, Route, Stray, Unroute}
use Rattle.clnp_machine.specs.Attachment.{Attachment}
use Rattle.clnp_machine.specs.Change.{ChangesFairly, changed}
use Rattle.clnp_machine.specs.Unit.{DataUnit, DeclaredAt, Packet, IsCarriable, value_of, wire}
use Rattle.clnp_machine.specs.Content.{Content, IsCarried, Labelled, Esis, Unlabelled}
use Rattle.clnp_machine.specs.System.{SystemState, number_behind, Input, AsksToSend, AsksForEcho, FrameComes, MomentComes, IsRestarted, IsCongested, IsChanged, Output, Transmits, SendsEsis, Notes, Effect}
use Rattle.clnp_machine.specs.Edited.{AreEdited}
use Rattle.clnp_machine.specs.Esis.{own_hello, redirect}
use Rattle.clnp_machine.specs.Local.{Deed, IsAsOffered, made_in, is_own, header_size, offered}
use Rattle.clnp_machine.specs.Step.{loss_at, next_hop, way_of}

-- it is still the same system, at its place, of the same configuration
pub record StaysItself (before after : SystemState) : Type 0 where
  pub place : after.place ≡ before.place
  pub configuration : after.configuration ≡ before.configuration
  pub hold : after.hold ≡ before.hold
  pub reuse : after.identifiers.reuse ≡ before.identifiers.reuse

-- a system's moment is the last that came to it
abbrev pub moment_after : SystemState → Input → ℕ
moment_after s (AsksToSend from to octets ask) = s.moment
moment_after s (AsksForEcho from to octets) = s.moment
moment_after s (FrameComes port sender to_group content) = s.moment
moment_after s (MomentComes now) = now
moment_after s IsRestarted = s.moment
moment_after s (IsCongested on) = s.moment
moment_after s (IsChanged change) = s.moment

-- a system's ports and routes are as they were, but for what comes to change them
abbrev pub attached_after : SystemState → Input → Attachment
attached_after s (IsChanged change) = changed change s.attached
attached_after s _ = s.attached

-- What comes to a system is fair: a unit that is asked for is formed as it should be, with options that a data unit may have;
-- an echo is asked for between addresses; and a frame comes from an address, and carries what one may carry.
abbrev pub IsFair : Input → Type 0
IsFair (AsksToSend from to octets ask) = IsFormedAsk from to ask × FitsKind false (parameters ask.options)
IsFair (AsksForEcho from to octets) = IsAddress from × IsAddress to
IsFair (FrameComes port sender to_group content) = IsAddress sender × IsCarried content
IsFair _ = Unit {0}

-- a change that comes to a system brings with it what it has to
abbrev pub IsFairChange : SystemState → Input → Type 0
IsFairChange s (IsChanged change) = ChangesFairly s.attached change
IsFairChange s _ = Unit {0}

-- a unit that a system makes at a moment: of a source that is its own, and all that its initial PDU carries
pub record IsFresh (s : SystemState) (now : ℕ) (u : DataUnit) : Type 0 where
  pub maker : u.maker ≡ DeclaredAt s.place
  pub made : u.made ≡ now
  pub source : is_own s u.source ≡ true
  pub first_position : u.first_position ≡ 0
  pub total : u.total ≡ header_size u + length u.octets

-- units are numbered one behind another, the first of them behind a number
abbrev pub AreNumbered : ℕ → List DataUnit → Type 0
AreNumbered number [] = Unit {0}
AreNumbered number (u ∷ units) = (u.number ≡ number_behind number) × AreNumbered u.number units

-- What a unit is made for: one of data for the octets that are to be sent, an echo request where one is asked for; and beside
-- these an error report, or an echo reply.
abbrev pub IsMadeFor : Input → DataUnit → Type 0
IsMadeFor (AsksToSend from to octets ask) u = (u.kind ≡ Dt) × (u.source ≡ from) × (u.destination ≡ to) × (u.octets ≡ octets)
IsMadeFor (AsksForEcho from to octets) u = (u.kind ≡ Erq) × (u.source ≡ from) × (u.destination ≡ to) × (u.octets ≡ octets)
IsMadeFor _ u = (u.kind ≡ Er) ⊎ (u.kind ≡ Erp)

-- what it heard, when it says hello, whether it is congested, and what it is attached to is as before
pub record HearsNothing (before after : SystemState) : Type 0 where
  pub facts : after.facts ≡ before.facts
  pub hello : after.hello ≡ before.hello
  pub next_hello : after.next_hello ≡ before.next_hello
  pub congested : after.congested ≡ before.congested
  pub attached : after.attached ≡ before.attached

-- all else is as before
pub record LeavesTheRest (before after : SystemState) : Type 0 where
  pub place : after.place ≡ before.place
  pub configuration : after.configuration ≡ before.configuration
  pub hold : after.hold ≡ before.hold
  pub moment : after.moment ≡ before.moment
  pub count : after.count ≡ before.count
  pub identifiers : after.identifiers ≡ before.identifiers
  pub buffers : after.buffers ≡ before.buffers
  pub pending : after.pending ≡ before.pending
  pub congested : after.congested ≡ before.congested
  pub attached : after.attached ≡ before.attached

-- an ES-IS PDU, or a note of what is heard or gone
abbrev pub IsOfHellos : Output → Type 0
IsOfHellos (SendsEsis port target value) = Unit {0}
IsOfHellos (Notes (Hear table key heard)) = Unit {0}
IsOfHellos (Notes (Gone table key)) = Unit {0}
IsOfHellos (Notes (Ignored rd)) = Unit {0}
IsOfHellos _ = ⊥

-- what is said and heard between systems: nothing else changes, and nothing else is given out
pub record OnlyHellos (s : SystemState) (effect : Effect) : Type 0 where
  pub rest : LeavesTheRest s effect.after
  pub outputs : AllByRecursion IsOfHellos effect.outputs
  pub units : effect.units ≡ []

-- what a deed of a system leaves and makes: the same system, at the same moment, with what it heard, and units that are
-- fresh
pub record IsDeed (s : SystemState) (deed : Deed) : Type 0 where
  pub itself : StaysItself s deed.after
  pub moment : deed.after.moment ≡ s.moment
  pub heard : HearsNothing s deed.after
  pub fresh : AllByRecursion (IsFresh s s.moment) (made_in deed.actions)

-- what a packet that comes leaves and makes: the same, as an effect
pub record IsEffect (s : SystemState) (effect : Effect) : Type 0 where
  pub itself : StaysItself s effect.after
  pub moment : effect.after.moment ≡ s.moment
  pub heard : HearsNothing s effect.after
  pub fresh : AllByRecursion (IsFresh s s.moment) effect.units

-- What holds of a packet of one of some units: it is a range of the unit, and all of it where the unit may not be
-- segmented; it was forwarded no more often than its lifetime allowed, and its options are those of the unit but for what routers
-- made of them, which keeps their form.
pub record IsRangeOf (units : List DataUnit) (p : Packet) : Type 0 where
  pub unit : Contains units p.unit
  pub options : HaveOneForm p.options p.unit.options
  pub edits : AreEdited p.unit.options p.options
  pub lifetime : p.hops + p.lifetime ≤ p.unit.lifetime
  pub within : p.offset + p.length ≤ length p.unit.octets
  pub whole : p.unit.identifier ≡ None → (p.offset ≡ 0) × (p.length ≡ length p.unit.octets)

-- What holds of a packet that goes on by a port, of one that came: it is a range of that one's, and all of it where its unit may
-- not be segmented; it was forwarded once more, and its lifetime is lower by the port's transit, by 1 at least, and not over; its
-- options are those of that one but for what routers make of them, and have their form, where a PDU can carry that one.
pub record GoesOnFrom (s : SystemState) (number : ℕ) (came p : Packet) : Type 0 where
  pub port : PortConfig
  pub there : slice_get s.attached.ports number ≡ Some port
  pub unit : p.unit ≡ came.unit
  pub options : IsCarriable came → HaveOneForm p.options came.options
  pub edits : AreEdited came.options p.options
  pub hops : p.hops ≡ came.hops + 1
  pub lifetime : p.lifetime + loss_at port ≡ came.lifetime
  pub alive : 1 ≤ p.lifetime
  pub from : came.offset ≤ p.offset
  pub to : p.offset + p.length ≤ came.offset + came.length
  pub whole : p.unit.identifier ≡ None → (p.offset ≡ came.offset) × (p.length ≡ came.length)

-- each packet that is sent goes on, of one that came
abbrev pub SendsOn : SystemState → Packet → Output → Type 0
SendsOn s came (Transmits port target packet) = GoesOnFrom s port came packet
SendsOn s came (SendsEsis port target value) = Unit {0}
SendsOn s came (Notes note) = Unit {0}

-- a packet goes on, of one that comes
abbrev pub GoesOnOf : SystemState → (port : ℕ) → Input → Packet → Type 0
GoesOnOf s port (FrameComes at sender to_group (Labelled came following)) p = GoesOnFrom s port came p
GoesOnOf s port _ p = ⊥

-- what is sent is a range of one of some units, or an ES-IS PDU
abbrev pub SendsRangesOf : List DataUnit → Output → Type 0
SendsRangesOf units (Transmits port target packet) = IsRangeOf units packet
SendsRangesOf units (SendsEsis port target value) = Unit {0}
SendsRangesOf units (Notes note) = Unit {0}

-- what is sent is a range of one of some units, or goes on, or is an ES-IS PDU
abbrev pub SendsRangesOrGoesOn : SystemState → Input → List DataUnit → Output → Type 0
SendsRangesOrGoesOn s input units (Transmits port target packet) = IsRangeOf units packet ⊎ GoesOnOf s port input packet
SendsRangesOrGoesOn s input units (SendsEsis port target value) = Unit {0}
SendsRangesOrGoesOn s input units (Notes note) = Unit {0}

-- a PDU can carry each packet that is sent
abbrev pub SendsCarriable : Output → Type 0
SendsCarriable (Transmits port target packet) = IsCarriable packet
SendsCarriable (SendsEsis port target value) = Unit {0}
SendsCarriable (Notes note) = Unit {0}

-- whether an output is a frame that is sent
abbrev pub sends_frame : Output → Bool
sends_frame (Transmits port target packet) = true
sends_frame (SendsEsis port target value) = true
sends_frame (Notes note) = false

-- whether it is an ES-IS PDU
abbrev pub sends_esis : Output → Bool
sends_esis (Transmits port target packet) = false
sends_esis (SendsEsis port target value) = true
sends_esis (Notes note) = false

-- what is sent is at most the system's own hello, to one place
abbrev pub IsAtMostItsHello : SystemState → Neighbour → List Output → Type 0
IsAtMostItsHello s neighbour sent = (sent ≡ []) ⊎ (sent ≡ SendsEsis neighbour.port (System neighbour.snpa) (own_hello s) ∷ [])

-- a system's own hello, whatever its period is then
abbrev pub IsItsHello : SystemState → EsisValue → Type 0
IsItsHello s value = (seconds : ℕ) × (value ≡ own_hello (record s { hello = seconds }))

-- a redirect of its, which routers alone send
abbrev pub IsItsRedirect : SystemState → EsisValue → Type 0
IsItsRedirect s value =
    (s.configuration.role ≡ Router)
    × ((to : List ℕ) × (via : List ℕ) × (title : Option (List ℕ)) × (value ≡ redirect s to via title))

abbrev pub IsItsOwn : SystemState → EsisValue → Type 0
IsItsOwn s value = IsItsHello s value ⊎ IsItsRedirect s value

-- what is sent is at most the system's own hello or one redirect of its, to one place
abbrev pub IsAtMostOneTo : SystemState → Neighbour → List Output → Type 0
IsAtMostOneTo s neighbour sent =
    IsAtMostItsHello s neighbour sent
    ⊎ ((value : EsisValue) × IsItsRedirect s value × (sent ≡ SendsEsis neighbour.port (System neighbour.snpa) value ∷ []))

-- each ES-IS value that is sent is the system's own hello, or a redirect of its
abbrev pub SendsItsOwn : SystemState → Output → Type 0
SendsItsOwn s (SendsEsis port target value) = IsItsOwn s value
SendsItsOwn s _ = Unit {0}

-- each ES-IS value that is sent is one that a PDU can carry
abbrev pub SendsEsisPdus : Output → Type 0
SendsEsisPdus (SendsEsis port target value) = IsPdu value
SendsEsisPdus _ = Unit {0}

-- what is noted is such as Q says
abbrev pub NotesOnly : (Note → Type 0) → Output → Type 0
NotesOnly Q (Transmits port target packet) = Unit {0}
NotesOnly Q (SendsEsis port target value) = Unit {0}
NotesOnly Q (Notes note) = Q note

-- what a note hands up is for an address of the system
abbrev pub IsForOwn : SystemState → Note → Type 0
IsForOwn s (Got from to octets) = is_own s to ≡ true
IsForOwn s (Report from to reason place octets) = is_own s to ≡ true
IsForOwn s (Echoed from to unit) = is_own s to ≡ true
IsForOwn s (Stray from to) = is_own s to ≡ true
IsForOwn s _ = Unit {0}

-- all segments that are kept
abbrev pub segments_in : List (Buffer Packet) → List (Arrival Packet)
segments_in buffers = flat_map (λ buffer. buffer.kept) buffers

-- the segments that a system keeps are as they were offered, and PDUs can carry them
abbrev pub KeepsAsOffered : SystemState → Type 0
KeepsAsOffered s = AllByRecursion IsAsOffered (segments_in s.buffers)

-- each system that it heard of is at an address of its subnetwork
abbrev pub KnowsAddresses : SystemState → Type 0
KnowsAddresses s = AllByRecursion (λ (fact : Fact). IsAddress fact.neighbour.snpa) s.facts

-- Redirects.

-- a redirect for a destination
abbrev pub IsRedirectFor : List ℕ → Content → Type 0
IsRedirectFor destination (Esis value following) =
    (via : List ℕ) × (title : Option (List ℕ)) × (value.body ≡ Rd destination via title)
IsRedirectFor destination _ = ⊥

-- a system sends as before to an address, and knows of the same way there, with the title of the next system on it
pub record KeepsNextHop (before after : SystemState) (address : List ℕ) : Type 0 where
  pub hop : next_hop after address ≡ next_hop before address
  pub way : way_of after address ≡ way_of before address

-- so it is of each address but one
abbrev pub KeepsNextHops : (destination : List ℕ) → (before after : SystemState) → Type 0
KeepsNextHops destination before after = (address : List ℕ) → (address ≡ destination → ⊥)
    → KeepsNextHop before after address

-- Reports and echoes.

-- units that are made where a frame is discarded: at most its report, of which no report is wanted
pub record IsReportOf (frame : List ℕ) (u : DataUnit) : Type 0 where
  pub kind : u.kind ≡ Er
  pub unreported : u.report ≡ false
  pub whole : u.identifier ≡ None
  pub destination : u.destination ≡ source_of frame
  pub data_are : u.octets ≡ header_of frame

abbrev pub IsAtMostReportOf : List ℕ → List DataUnit → Type 0
IsAtMostReportOf frame units = (units ≡ []) ⊎ ((u : DataUnit) × (units ≡ u ∷ []) × IsReportOf frame u)

-- what is sent goes on, of a packet that came, and no unit is made; or what is sent is of a unit that is made, at most the report
-- of the discard of the frame
abbrev pub GoesOnOrIsReported : SystemState → Packet → (frame : List ℕ) → Effect → Type 0
GoesOnOrIsReported s came frame effect =
    (AllByRecursion (SendsOn s came) effect.outputs × (effect.units ≡ []))
    ⊎ (AllByRecursion (SendsRangesOf effect.units) effect.outputs × IsAtMostReportOf frame effect.units)

-- a packet came in a step, or was kept before it
abbrev pub IsAtHand : SystemState → Input → Packet → Type 0
IsAtHand s (FrameComes port sender to_group (Labelled came following)) p = (p ≡ came) ⊎ Contains (map (λ (arrival : Arrival Packet). arrival.carried) (segments_in s.buffers)) p
IsAtHand s input p = Contains (map (λ (arrival : Arrival Packet). arrival.carried) (segments_in s.buffers)) p

-- a unit that is an error report is that of the discard of a packet that is at hand: its data are the header of the packet's
-- PDU, and it goes to the packet's source
abbrev pub ReportsOn : SystemState → Input → DataUnit → Type 0
ReportsOn s input u = u.kind ≡ Er
    → (p : Packet) × IsAtHand s input p × IsReportOf (wire p) u × (source_of (wire p) ≡ p.unit.source)

-- a request that is to be answered after a step was so before it, or was made in it
abbrev pub WasPendingOrMade : SystemState → Effect → DataUnit → Type 0
WasPendingOrMade s effect request = Contains s.pending request ⊎ (Contains effect.units request × (request.kind ≡ Erq))

-- a note doesn't say that the system was restarted
abbrev pub IsNoRestart : Note → Type 0
IsNoRestart Restart = ⊥
IsNoRestart _ = Unit {0}

-- a note doesn't say that a route was set or is gone, or that a port is elsewhere
abbrev pub IsNoChange : Note → Type 0
IsNoChange (Route prefix) = ⊥
IsNoChange (Unroute prefix there) = ⊥
IsNoChange (Port port subnet snpa) = ⊥
IsNoChange _ = Unit {0}

-- nobody restarts the system
abbrev pub RestartsNothing : Input → Type 0
RestartsNothing IsRestarted = ⊥
RestartsNothing _ = Unit {0}

-- no more octets are held for reassembly than the system may
abbrev pub IsWithinBudget : SystemState → Type 0
IsWithinBudget s = held s.buffers ≤ s.configuration.settings.budget

-- the segment that comes in a frame
abbrev pub CarriesSegment : Content → Arrival Packet → Type 0
CarriesSegment (Labelled packet following) arrival = arrival ≡ offered packet following
CarriesSegment (Esis value following) arrival = ⊥
CarriesSegment (Unlabelled octets) arrival = ⊥

abbrev pub ComesWith : Input → Arrival Packet → Type 0
ComesWith (FrameComes port sender to_group content) arrival = CarriesSegment content arrival
ComesWith _ arrival = ⊥

-- a segment that is kept after a step was kept before, or came in it
abbrev pub WasKeptOrComes : SystemState → Input → Arrival Packet → Type 0
WasKeptOrComes s input arrival = Contains (segments_in s.buffers) arrival ⊎ ComesWith input arrival

-- PDUs can carry all of some packets
abbrev pub AreCarriable : Option (List Packet) → Type 0
AreCarriable None = Unit {0}
AreCarriable (Some packets) = AllByRecursion IsCarriable packets

-- the ES-IS PDU at the front of a frame that carries a value is the value's, and what follows it is what follows the
-- value
abbrev pub CarriesOneEsisValue : Type 0
CarriesOneEsisValue =
    (v : EsisValue) (following : List ℕ) (w : EsisValue) (rest : List ℕ) → IsPdu v
    → esis.BeginsWith (spelling v ++ following) w rest → (w ≡ v) × (rest ≡ following)

-- the PDU at the front of a frame that carries a packet is the packet's, and what follows it is what follows the packet
abbrev pub CarriesOnePacket : Type 0
CarriesOnePacket =
    (p : Packet) (following : List ℕ) (v : PduValue) (rest : List ℕ) → IsCarriable p
    → BeginsWith (wire p ++ following) v rest
    → (v ≡ value_of p) × (rest ≡ following)

-- a frame begins as a PDU does (ISO 8473, section 7.2.2), and breaks no rule of PDUs
pub record BreaksNoRule (frame : List ℕ) : Type 0 where
  pub protocol : octet frame 1 ≡ 0x81
  pub rules : refusal frame ≡ None

-- a frame begins as an ES-IS PDU does (ISO 9542, section 7.2.2), and breaks no rule of ES-IS PDUs
pub record BreaksNoEsisRule (frame : List ℕ) : Type 0 where
  pub protocol : octet frame 1 ≡ 0x82
  pub rules : esis_rules.refusal frame ≡ None
