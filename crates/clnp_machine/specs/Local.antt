-- What a system does at its own addresses, be it a host or a router (ISO 8473, sections 6.1, 6.2, 6.8 and 6.9).
use Rattle.std.specs.Prelude.{◌≡◌, ℕ, zero, suc, ◌+◌, ◌-◌, ◌==◌, ◌&&◌, ◌||◌, not, nat_lt, Bool, true, false, if◌then◌else◌, List, [], ◌∷◌, ◌++◌, length, drop, slice_get, slice_index, Option, None, Some, option_map, is_none}
use Rattle.std.specs.List.{find, list_any}
use Rattle.std.specs.Str.{bytes_eq}
use Rattle.clnp_plan.specs.ClnpOptions.Parameter.{Parameter, parameters}
use Rattle.clnp_plan.specs.ClnpOptions.Reasons.{reason_code}
use Rattle.clnp_plan.specs.Pdus.declared.clnp_options.reasons.Reason.TheVariants.{Congestion, LifetimeExpiredInReassembly, ReassemblyInterference}
use Rattle.clnp_plan.specs.Pdus.declared.pdu_header.kind.Kind.{Kind}
use Rattle.clnp_plan.specs.Pdus.declared.pdu_header.kind.Kind.TheVariants.{Dt, Er, Erq, Erp}
use Rattle.clnp_plan.specs.PduHeader.Rules.{header_of, is_reportable}
use Rattle.clnp_plan.specs.PduHeader.Spelling.{header_length, type_code}
use Rattle.pdus.specs.MadePdus.Report.{reason_option, source_of}
use Rattle.pdus.specs.MadePdus.Told.{cause_in, place_in}
use Rattle.pdus.specs.MadePdus.Match.{echoes}
use Rattle.pdus.specs.MadePdus.Reply.{needs_identifier}
use Rattle.system_tables.specs.Reassembly.Arrival.{Arrival}
use Rattle.system_tables.specs.Reassembly.Buffer as buffer
use Rattle.system_tables.specs.Reassembly.Buffer.{Answer, Buffer}
use Rattle.clnp_plan.specs.Configuration.{SystemConfiguration}
use Rattle.clnp_plan.specs.declared.ask.Ask.{Ask}
use Rattle.clnp_plan.specs.declared.note.Note.{Note}
use Rattle.clnp_plan.specs.declared.note.Note.TheVariants as note
use Rattle.clnp_plan.specs.declared.note.Why.TheVariants as why
use Rattle.clnp_machine.specs.Identifiers as ids
use Rattle.clnp_machine.specs.Identifiers.{Identifiers, NotDrawn, IsQuiet, IsBusy, not_drawn}
use Rattle.clnp_machine.specs.Unit.{DeclaredAt, DataUnit, Packet, IsCarriable, value_of, wire, whole_packet}
use Rattle.clnp_machine.specs.Content.{Content, Labelled, frame_of}
use Rattle.clnp_machine.specs.System.{SystemState, next_number, table_limits}

-- it sends a unit that it made, or notes something
pub data Action : Type 0 where
  Sends : (unit : DataUnit) → Action
  Tells : (told : Note) → Action

-- the state after it, and what it does, in order
pub record Deed : Type 0 where
  pub after : SystemState
  pub actions : List Action

-- nothing is done
abbrev pub rests : SystemState → Deed
rests s = record { after = s; actions = [] }

-- nothing changes but that something is noted
abbrev pub tells : SystemState → Note → Deed
tells s told = record { after = s; actions = Tells told ∷ [] }

-- one deed, and then the next
abbrev pub and_then : Deed → (SystemState → Deed) → Deed
and_then deed next = record { after = (next deed.after).after; actions = deed.actions ++ (next deed.after).actions }

-- the units that are sent
abbrev pub made_in : List Action → List DataUnit
made_in [] = []
made_in (Sends u ∷ actions) = u ∷ made_in actions
made_in (Tells told ∷ actions) = made_in actions

-- whether an address is one of those of a configuration
abbrev pub has_address : SystemConfiguration → List ℕ → Bool
has_address configuration address = list_any (λ own. bytes_eq own address) configuration.addresses

-- whether an address is one of the system's
abbrev pub is_own : SystemState → List ℕ → Bool
is_own s address = has_address s.configuration address

-- Units that it makes.

-- the most octets that a unit may have
abbrev pub most_octets : ℕ
most_octets = 64512

-- the identifier of a unit that may be segmented, and of no other
abbrev pub identifier_for : SystemState → Bool → Option ℕ
identifier_for s segment = if segment then Some (ids.next s.identifiers) else None

-- the unit of some octets that a system makes, with what its initial PDU says
abbrev pub unit_with : SystemState → Kind → (from to octets : List ℕ) → (life : ℕ) → (report segment : Bool)
    → (options : List Parameter) → DataUnit
unit_with s kind from to octets life report segment options =
    let made : ℕ → DataUnit = λ total. record {
      maker = DeclaredAt s.place;
      number = next_number s;
      made = s.moment;
      kind = kind;
      report = report;
      sealed = s.configuration.settings.sealed;
      source = from;
      destination = to;
      identifier = identifier_for s segment;
      options = options;
      lifetime = life;
      first_position = 0;
      total = total;
      octets = octets;
    } in made (header_length (value_of (whole_packet (made 0))) + length octets)

-- the unit that is made of what is asked for, where it isn't refused
abbrev pub unit_of : SystemState → Kind → (from to octets : List ℕ) → Ask → DataUnit
unit_of s kind from to octets ask = unit_with s kind from to octets ask.life ask.report ask.segment (parameters ask.options)

-- how many octets the header of a unit has
abbrev pub header_size : DataUnit → ℕ
header_size u = header_length (value_of (whole_packet u))

abbrev pub not_drawn_note : NotDrawn → Note
not_drawn_note (IsQuiet until) = note.Refused why.Quiet until
not_drawn_note (IsBusy used) = note.Refused why.IdsBusy used

-- no identifier can be drawn for a unit that needs one
abbrev pub identifier_refusal : SystemState → Option ℕ → Option Note
identifier_refusal s None = None
identifier_refusal s (Some identifier) = option_map not_drawn_note (not_drawn s.moment s.identifiers)

-- Why a unit isn't made, with the number that is noted beside it: the first of these that holds. Its source isn't one of
-- the system's addresses; it has too many octets; its header has; no identifier can be drawn for it.
abbrev pub refusal : SystemState → DataUnit → Option Note
refusal s u =
    if not (is_own s u.source) then Some (note.Refused why.NotMine 0)
    else if nat_lt most_octets (length u.octets) then Some (note.Refused why.TooLong (length u.octets))
    else if nat_lt 254 (header_size u) then Some (note.Refused why.TooLong (header_size u))
    else identifier_refusal s u.identifier

-- the identifiers once a unit was made
abbrev pub with_use : SystemState → Option ℕ → Identifiers
with_use s None = s.identifiers
with_use s (Some identifier) = ids.after_use s.moment s.identifiers

abbrev pub sent_note : DataUnit → Note
sent_note u = note.Sent u.kind u.number u.identifier u.source u.destination (length u.octets)

-- the most echo requests that are to be answered
abbrev pub most_pending : ℕ
most_pending = 8

-- where they are too many, the oldest is given up
abbrev pub within_most : List DataUnit → List DataUnit
within_most requests = if nat_lt most_pending (length requests) then drop 1 requests else requests

-- the requests that are to be answered, once a unit was made
abbrev pub with_made : Kind → List DataUnit → DataUnit → List DataUnit
with_made Erq requests u = within_most (requests ++ u ∷ [])
with_made Dt requests u = requests
with_made Er requests u = requests
with_made Erp requests u = requests

-- the unit is made, noted and sent
abbrev pub makes : SystemState → DataUnit → Deed
makes s u =
    record {
      after = record s { count = u.number; identifiers = with_use s u.identifier; pending = with_made u.kind s.pending u };
      actions = Tells (sent_note u) ∷ Sends u ∷ [];
    }

-- a refused unit leaves nothing but its note
abbrev pub unless_refused : Option Note → SystemState → DataUnit → Deed
unless_refused (Some refused) s u = tells s refused
unless_refused None s u = makes s u

-- a unit of these octets is asked for
abbrev pub make : SystemState → Kind → (from to octets : List ℕ) → Ask → Deed
make s kind from to octets ask = unless_refused (refusal s (unit_of s kind from to octets ask)) s (unit_of s kind from to octets ask)

-- Echo requests and replies (RFC 1575) may be segmented exactly where not every subnetwork takes them in one piece; they have
-- the system's own lifetime, and no options. A report is wanted of a request alone.
abbrev pub echo_ask : SystemState → (from to : List ℕ) → (len : ℕ) → (report : Bool) → Ask
echo_ask s from to len report =
    record { life = s.configuration.settings.life; report = report; segment = needs_identifier from to len; options = [] }

-- an echo request with these octets, as it is made where it isn't refused
abbrev pub request_unit : SystemState → (from to octets : List ℕ) → DataUnit
request_unit s from to octets = unit_of s Erq from to octets (echo_ask s from to (length octets) true)

-- an echo request with these octets is asked for
abbrev pub requests_echo : SystemState → (from to octets : List ℕ) → Deed
requests_echo s from to octets = make s Erq from to octets (echo_ask s from to (length octets) true)

-- a request is answered with its data alone
abbrev pub replies : SystemState → (source destination octets : List ℕ) → Deed
replies s source destination octets =
    make s Erp destination source octets (echo_ask s destination source (length octets) false)

-- What comes of PDUs.

-- The report of a frame's discard (sections 6.10 and 7.9): from the system's title to the discarded PDU's source, with the
-- discarded header, as it came, for its data, and the reason for its one option. It is never refused.
abbrev pub report_unit : SystemState → (own frame : List ℕ) → (reason place : ℕ) → DataUnit
report_unit s own frame reason place =
    unit_with s Er own (source_of frame) (header_of frame) s.configuration.settings.life false false (reason_option reason place ∷ [])

-- the discard of a frame is reported exactly where the frame is reportable, by a system that has a title
abbrev pub reports_from : Option (List ℕ) → SystemState → (frame : List ℕ) → (reason place : ℕ) → Deed
reports_from None s frame reason place = rests s
reports_from (Some own) s frame reason place =
    if is_reportable frame then makes s (report_unit s own frame reason place) else rests s

abbrev pub reports : SystemState → (frame : List ℕ) → (reason place : ℕ) → Deed
reports s frame reason place = reports_from (slice_get s.configuration.addresses 0) s frame reason place

-- A PDU that came in a frame is discarded (ISO 8473, section 6.9), for a reason and with the place of the octet at fault.
abbrev pub discard : SystemState → (frame : Content) → (reason place : ℕ) → Deed
discard s frame reason place =
    and_then (tells s (note.Discard reason place)) (λ t. reports t (frame_of frame) reason place)

-- whether an echo reply between two addresses with these data answers a request (RFC 1575)
abbrev pub is_answer : (source destination octets : List ℕ) → DataUnit → Bool
is_answer source destination octets request =
    bytes_eq request.destination source && (bytes_eq request.source destination && echoes request.octets octets)

-- the requests without the first that an answer is for
abbrev pub without_answered : (DataUnit → Bool) → List DataUnit → List DataUnit
without_answered is_answered [] = []
without_answered is_answered (request ∷ later) =
    if is_answered request then later else request ∷ without_answered is_answered later

-- a reply is taken for the request that it answers, if there is one
abbrev pub takes_reply : SystemState → (source destination octets : List ℕ) → Option DataUnit → Deed
takes_reply s source destination octets None = tells s (note.Stray source destination)
takes_reply s source destination octets (Some request) =
    tells (record s { pending = without_answered (is_answer source destination octets) s.pending })
    (note.Echoed source destination request.number)

-- it answers the oldest of the requests that it may answer
abbrev pub is_replied : SystemState → (source destination octets : List ℕ) → Deed
is_replied s source destination octets =
    takes_reply s source destination octets (find (is_answer source destination octets) s.pending)

-- The data of a unit of a kind are handed up, once they are whole; the options are those of the PDU that made them whole. An
-- error report tells its reason and place, an echo request is answered, and a reply is taken for an answer.
abbrev pub hand_up : SystemState → Kind → (source destination octets : List ℕ) → (options : List Parameter) → Deed
hand_up s Dt source destination octets options = tells s (note.Got source destination octets)
hand_up s Er source destination octets options =
    tells s (note.Report source destination (cause_in options) (place_in options) octets)
hand_up s Erq source destination octets options = replies s source destination octets
hand_up s Erp source destination octets options = is_replied s source destination octets

-- Packets for its own addresses.

-- whether a packet is all of its unit
abbrev pub is_all : Packet → Bool
is_all p = is_none p.unit.identifier || ((p.offset == 0) && not (value_of p).more)

abbrev pub identifier_in : Option ℕ → ℕ
identifier_in None = 0
identifier_in (Some identifier) = identifier

-- a segment, as it is offered to the buffers, with the octets that follow its PDU in its frame
abbrev pub offered : Packet → List ℕ → Arrival Packet
offered p following =
    record {
      key = record { from = p.unit.source; to = p.unit.destination; id = identifier_in p.unit.identifier };
      shape = record { total = p.unit.total; head_len = header_length (value_of p); kind = type_code p.unit.kind };
      offset = p.offset;
      len = p.length;
      size = length (wire p ++ following);
      lifetime = p.lifetime;
      carried = p;
    }

-- a kept segment is as it was offered, and a PDU can carry it
pub record IsAsOffered (arrival : Arrival Packet) : Type 0 where
  pub following : List ℕ
  pub is_offered : arrival ≡ offered arrival.carried following
  pub carriable : IsCarriable arrival.carried

-- the octet at a place of the data of the packet's unit
abbrev pub octet_of : Arrival Packet → ℕ → ℕ
octet_of arrival place = slice_index arrival.carried.unit.octets (place - arrival.carried.unit.first_position)

-- the data of the unit whose buffer it is
abbrev pub data_in : Option (Buffer Packet) → List ℕ
data_in None = []
data_in (Some whole) = buffer.data_of octet_of whole

-- what comes of a segment in a frame, where the buffers are these once it was kept
abbrev pub takes_in : SystemState → Content → Arrival Packet → List (Buffer Packet) → Answer → Deed
takes_in s frame arrival kept buffer.Held =
    tells (record s { buffers = kept }) (note.Held arrival.key.id arrival.offset (buffer.held kept))
takes_in s frame arrival kept buffer.Whole =
    hand_up (record s { buffers = buffer.without arrival.key kept }) arrival.carried.unit.kind arrival.key.from arrival.key.to
    (data_in (buffer.buffer_of arrival.key kept)) arrival.carried.options
takes_in s frame arrival kept (buffer.Interference there other) =
    and_then (tells s (note.Interference arrival.key.id)) (λ t. discard t frame (reason_code ReassemblyInterference) 0)
takes_in s frame arrival kept buffer.Repeat = tells s (note.Repeat arrival.key.id arrival.offset)
takes_in s frame arrival kept (buffer.NoSlot live) =
    and_then (tells s (note.NoSlot live)) (λ t. discard t frame (reason_code Congestion) 0)
takes_in s frame arrival kept (buffer.Crowded held size) =
    and_then (tells s (note.Crowded held size)) (λ t. discard t frame (reason_code Congestion) 0)
takes_in s frame arrival kept (buffer.Many segments) =
    and_then (tells s (note.Many segments)) (λ t. discard t frame (reason_code Congestion) 0)

-- a segment in a frame is offered to the buffers
abbrev pub offer : SystemState → Content → Arrival Packet → Deed
offer s frame arrival =
    takes_in s frame arrival (buffer.after (table_limits s) s.moment arrival s.buffers)
    (buffer.answer (table_limits s) s.moment arrival s.buffers)

-- a packet for one of the system's addresses comes: a whole unit is handed up, a segment is offered to the buffers
abbrev pub receive : SystemState → Packet → (following : List ℕ) → Deed
receive s p following =
    if is_all p then hand_up s p.unit.kind p.unit.source p.unit.destination (value_of p).body p.options
    else offer s (Labelled p following) (offered p following)

-- Buffers whose time has ended.

-- the packet at the beginning of the unit, if one came, is discarded: its lifetime expired in reassembly
abbrev pub discard_first : SystemState → Option Packet → Deed
discard_first s None = rests s
discard_first s (Some p) = discard s (Labelled p []) (reason_code LifetimeExpiredInReassembly) 0

-- a buffer is taken out
abbrev pub gives_up : SystemState → Buffer Packet → Deed
gives_up s ended =
    and_then (tells (record s { buffers = buffer.without ended.key s.buffers }) (note.Expired ended.key.id (buffer.held (buffer.without ended.key s.buffers))))
    (λ t. discard_first t (buffer.first_carried ended))

-- the buffers that are due are taken out, one after another, so many at most
abbrev pub give_up_due : Option (Buffer Packet) → SystemState → (SystemState → Deed) → Deed
give_up_due None s next = rests s
give_up_due (Some ended) s next = and_then (gives_up s ended) next

abbrev pub expire : ℕ → SystemState → Deed
expire zero s = rests s
expire (suc most) s = give_up_due (buffer.due s.moment s.buffers) s (expire most)

-- a moment has come
abbrev pub at_moment : ℕ → SystemState → SystemState
at_moment now s = record s { moment = now }

abbrev pub tick : SystemState → ℕ → Deed
tick s now = expire (length s.buffers) (at_moment now s)

-- All that it keeps and heard is forgotten, and it is quiet as long as an identifier rests; its hello is due, and it isn't
-- congested. The count of its units goes on, and it stays attached as it is.
abbrev pub restarted : SystemState → SystemState
restarted s =
    record s {
      identifiers = ids.restarted s.moment s.identifiers;
      buffers = [];
      pending = [];
      facts = [];
      hello = s.configuration.settings.hello;
      next_hello = s.moment;
      congested = false;
    }
