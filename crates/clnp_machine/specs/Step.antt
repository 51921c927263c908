-- One step of a system, whatever comes to it: hosts and routers differ in where they send, in what they do with a packet for
-- another address (ISO 8473, section 6), and in what they say and hear of each other (ISO 9542, section 6).
use Rattle.std.specs.Prelude.{ℕ, zero, suc, ◌+◌, ◌-◌, ◌==◌, ◌&&◌, max, nat_le, not, Bool, true, false, if◌then◌else◌, List, [], ◌∷◌, ◌++◌, map, slice_get, Option, None, Some, is_none, option_map}
use Rattle.std.specs.List.{flat_map}
use Rattle.std.specs.Option.{option_or}
use Rattle.std.specs.Str.{bytes_eq}
use Rattle.clnp_plan.specs.Pdus.declared.nsap.target.Target.TheVariants.{System, EndSystems}
use Rattle.pdus.specs.declared.esis_pdus.pdu.EsisRefusal.{EsisRefusal}
use Rattle.pdus.specs.declared.esis_pdus.pdu.EsisRefusal.TheVariants.{NotEsis, Broken}
use Rattle.pdus.specs.EsisPdus.Rules.{why_refused}
use Rattle.clnp_plan.specs.SystemTables.declared.esis_tables.fact.Neighbour.{Neighbour}
use Rattle.clnp_plan.specs.SystemTables.declared.esis_tables.fact.TableKind.TheVariants.{Es}
use Rattle.clnp_plan.specs.EsisTables.NextHop as heard
use Rattle.clnp_plan.specs.SystemTables.declared.forwarding.route.Route.{Route}
use Rattle.clnp_plan.specs.Forwarding.Longest.{longest}
use Rattle.clnp_plan.specs.Pdus.declared.pdu_header.kind.Kind.TheVariants.{Dt}
use Rattle.clnp_plan.specs.Pdus.declared.clnp_options.judge.OptionRefusal.{OptionRefusal}
use Rattle.clnp_plan.specs.ClnpOptions.Edits.{advanced, edited, is_complete, marked, recorded, target_of}
use Rattle.clnp_plan.specs.ClnpOptions.Parameter.{Parameter, quality, recording, source_route}
use Rattle.clnp_plan.specs.ClnpOptions.Reasons.{reason_code}
use Rattle.clnp_plan.specs.Pdus.declared.clnp_options.reasons.Reason.TheVariants.{DestinationUnknown, LifetimeExpiredInTransit, NotSpecified, PathNotAcceptable, SegmentationNotPermitted, UnknownAddressInRoute}
use Rattle.clnp_plan.specs.PduHeader.Rules.{octet, refusal as rule_broken}
use Rattle.clnp_plan.specs.declared.config.PortConfig.{PortConfig}
use Rattle.clnp_plan.specs.declared.config.Role.{Role}
use Rattle.clnp_plan.specs.declared.config.Role.TheVariants.{Host, Router}
use Rattle.clnp_plan.specs.declared.note.Note.{Note}
use Rattle.clnp_plan.specs.declared.note.Note.TheVariants.{BadEsis, Discard, NotMine, Alien, Restart, Congest}
use Rattle.clnp_plan.specs.PduHeader.Value.{SegmentationPart}
use Rattle.clnp_machine.specs.Change.{Change, PortIsAt, changed}
use Rattle.clnp_machine.specs.Unit.{DataUnit, Packet, segmentation_of, whole_packet, cut}
use Rattle.clnp_machine.specs.Content.{Content, Labelled, Esis, Unlabelled}
use Rattle.clnp_machine.specs.System.{SystemState, Input, AsksToSend, AsksForEcho, FrameComes, MomentComes, IsRestarted, IsCongested, IsChanged, Output, Transmits, SendsEsis, Notes, Effect, idles, gives, then_does}
use Rattle.clnp_machine.specs.Esis.{esis_comes, forgets, redirect, says_hello, tells_of_itself, title_of}
use Rattle.clnp_machine.specs.Local.{Action, Sends, Tells, Deed, tells, made_in, is_own, make, discard, receive, requests_echo, tick, restarted}
pub use Rattle.clnp_machine.specs.declared.way.Hop.{Hop}
pub use Rattle.clnp_machine.specs.declared.way.Way.{Way}

-- Where a system sends.

-- where a place that was heard of is
abbrev pub hop_to : Neighbour → Hop
hop_to neighbour = record { port = neighbour.port; target = System neighbour.snpa }

-- a host that knows of none asks all end systems (ISO 9542, section 6.5)
abbrev pub host_hop : Option Neighbour → Hop
host_hop None = record { port = 0; target = EndSystems }
host_hop (Some neighbour) = hop_to neighbour

abbrev pub to_neighbour : Neighbour → Way
to_neighbour neighbour = record { neighbour = neighbour; title = None }

abbrev pub by_route : Route → Way
by_route route = record { neighbour = record { port = route.port; snpa = route.snpa }; title = Some route.title }

-- A router sends to the end system of an address where it heard of it, else by the route with the most digits among those
-- whose prefix covers the address (ISO 8473, section 6.5).
abbrev pub way_of : SystemState → List ℕ → Option Way
way_of s to =
    option_or (option_map to_neighbour (heard.current_neighbour s.moment Es to s.facts))
    (option_map by_route (longest to s.attached.routes))

abbrev pub hop_by : Way → Hop
hop_by way = hop_to way.neighbour

-- Where a packet for an address goes. A host sends it where it heard of: to the better hop of a redirect, to the end system, or
-- to the router that it heard last. A router knows its neighbours and its routes.
abbrev pub hop_of : Role → SystemState → List ℕ → Option Hop
hop_of Host s to = Some (host_hop (heard.next_hop s.moment to s.facts))
hop_of Router s to = option_map hop_by (way_of s to)

abbrev pub next_hop : SystemState → List ℕ → Option Hop
next_hop s to = hop_of s.configuration.role s to

-- the pieces are sent; a unit that may not be cut is dropped (ISO 8473, section 6.9)
abbrev pub transmissions : Hop → Option (List Packet) → List Output
transmissions hop None = Notes (Discard (reason_code SegmentationNotPermitted) 0) ∷ []
transmissions hop (Some pieces) = map (λ piece. Transmits hop.port hop.target piece) pieces

-- there is no way for a unit: its destination is unknown
abbrev pub no_way : List Output
no_way = Notes (Discard (reason_code DestinationUnknown) 0) ∷ []

-- a unit goes out on a port in frames that its subnetwork takes; by a port that isn't there is no way
abbrev pub sent_on : Hop → Option PortConfig → DataUnit → List Output
sent_on hop None u = no_way
sent_on hop (Some port) u = transmissions hop (cut (whole_packet u) port.mtu)

-- the first transmission of a unit
abbrev pub first_sent : SystemState → DataUnit → Option Hop → List Output
first_sent s u None = no_way
first_sent s u (Some hop) = sent_on hop (slice_get s.attached.ports hop.port) u

-- A router sends nothing to itself, so there is no way for such a unit.
abbrev pub is_to_itself : Role → SystemState → DataUnit → Bool
is_to_itself Host s u = false
is_to_itself Router s u = is_own s u.destination

-- where a unit that a system made goes
abbrev pub unit_hop : SystemState → DataUnit → Option Hop
unit_hop s u = if is_to_itself s.configuration.role s u then None else next_hop s u.destination

-- what a system gives out for what it does at its own addresses
abbrev pub outputs_of : SystemState → Action → List Output
outputs_of s (Tells told) = Notes told ∷ []
outputs_of s (Sends u) = first_sent s u (unit_hop s u)

abbrev pub effect_of : Deed → Effect
effect_of deed =
    record { after = deed.after; outputs = flat_map (outputs_of deed.after) deed.actions; units = made_in deed.actions }

-- What comes in a frame.

-- A PDU loses of its lifetime the transit of the port by which it goes on, and never less than 1 (section 6.4).
abbrev pub loss_at : PortConfig → ℕ
loss_at port = max 1 port.transit

-- a packet that was forwarded once more, with these options
abbrev pub forwarded : Packet → (loss : ℕ) → (options : List Parameter) → Packet
forwarded p loss options = record p { lifetime = p.lifetime - loss; hops = p.hops + 1; options = options }

-- Source routes, recorded routes, congestion.

-- whether a title is the system's own
abbrev pub is_named : SystemState → Option (List ℕ) → Bool
is_named s None = false
is_named s (Some title) = bytes_eq title (title_of s)

-- A router passes its own title in a source route while it stands at the pointer (section 6.14).
abbrev pub passing_own : (most : ℕ) → SystemState → List Parameter → List Parameter
passing_own zero s options = options
passing_own (suc most) s options =
    if is_named s (target_of options) then passing_own most s (edited source_route advanced options) else options

-- no source route has so many titles, since its pointer is an octet
abbrev pub most_titles : ℕ
most_titles = 255

-- a router that is congested says so where a quality of service has room for it (section 6.18)
abbrev pub noting_congestion : (congested : Bool) → List Parameter → List Parameter
noting_congestion false options = options
noting_congestion true options = edited quality marked options

-- The options of a packet behind a router: its title is passed in a source route, and put in a recording of route (section
-- 6.15).
abbrev pub options_behind : SystemState → List Parameter → List Parameter
options_behind s options =
    noting_congestion s.congested (edited recording (recorded (title_of s)) (passing_own most_titles s options))

-- what a packet is sent towards: the title to which its source route leads next, else its destination
abbrev pub towards : (destination : List ℕ) → (title : Option (List ℕ)) → List ℕ
towards destination None = destination
towards destination (Some title) = title

-- why it is discarded where no way leads there
abbrev pub no_way_to : (title : Option (List ℕ)) → ℕ
no_way_to None = reason_code DestinationUnknown
no_way_to (Some title) = reason_code UnknownAddressInRoute

-- whether the next system on a way is that of an address itself: a neighbour, or a router of this title
abbrev pub ends_at : (address : List ℕ) → (title : Option (List ℕ)) → Bool
ends_at address None = true
ends_at address (Some title) = bytes_eq title address

-- a packet that came in a frame is discarded for a reason, for which no place in it is told
abbrev pub discards : SystemState → Packet → (following : List ℕ) → (reason : ℕ) → Effect
discards s p following reason = effect_of (discard s (Labelled p following) reason 0)

-- whether something is at a place, as far as is known
abbrev pub is_at : Neighbour → Option Neighbour → Bool
is_at neighbour None = false
is_at neighbour (Some known) = (known.port == neighbour.port) && bytes_eq known.snpa neighbour.snpa

-- whether a PDU begins its unit, as one does that can't be segmented
abbrev pub begins_unit : Option SegmentationPart → Bool
begins_unit None = true
begins_unit (Some part) = part.offset == 0

-- Whether its source is told of a better way where a packet goes on with these options: the packet begins its unit, it goes
-- on by the port by which it came, and not towards a title of a source route, and its source is an end system that is known to
-- be at the place from which it came. A router that wants its redirects held for no time sends none (ISO 9542, section 6.8).
abbrev pub is_redirected : SystemState → (came : Neighbour) → Packet → (options : List Parameter) → Way → Bool
is_redirected s came p options way =
    not (s.configuration.settings.rhold == 0)
    && (way.neighbour.port == came.port
    && (is_none (target_of options)
    && (begins_unit (segmentation_of p) && is_at came (heard.current_neighbour s.moment Es p.unit.source s.facts))))

-- the redirect that follows a packet that goes on, if any does
abbrev pub redirects : SystemState → (came : Neighbour) → Packet → (options : List Parameter) → Way → List Output
redirects s came p options way =
    if is_redirected s came p options way
    then SendsEsis came.port (System came.snpa) (redirect s p.unit.destination way.neighbour.snpa way.title) ∷ []
    else []

-- the pieces of a packet go on, and a redirect may follow them; a packet that may not be cut is discarded (section 6.9)
abbrev pub pieces_go_on : SystemState → (came : Neighbour) → Packet → (following : List ℕ) → (options : List Parameter)
    → Way
    → Option (List Packet) → Effect
pieces_go_on s came p following options way None = discards s p following (reason_code SegmentationNotPermitted)
pieces_go_on s came p following options way (Some pieces) =
    gives s (transmissions (hop_by way) (Some pieces) ++ redirects s came p options way)

-- A packet goes on by a port, in frames that its subnetwork takes, unless its lifetime ends on the way there (section 6.4).
abbrev pub goes_on_by : SystemState → (came : Neighbour) → Packet → (following : List ℕ) → (options : List Parameter)
    → Way
    → Option PortConfig → Effect
goes_on_by s came p following options way None = discards s p following (reason_code DestinationUnknown)
goes_on_by s came p following options way (Some port) =
    if nat_le p.lifetime (loss_at port) then discards s p following (reason_code LifetimeExpiredInTransit)
    else pieces_go_on s came p following options way (cut (forwarded p (loss_at port) options) port.mtu)

-- A packet goes on by its way; where there is none, the address is unknown. A complete source route allows no other system before
-- the one that it leads to next (section 6.14).
abbrev pub goes_on_way : SystemState → (came : Neighbour) → Packet → (following : List ℕ) → (options : List Parameter)
    → Option Way → Effect
goes_on_way s came p following options None = discards s p following (no_way_to (target_of options))
goes_on_way s came p following options (Some way) =
    if is_complete options && not (ends_at (towards p.unit.destination (target_of options)) way.title)
    then discards s p following (reason_code PathNotAcceptable)
    else goes_on_by s came p following options way (slice_get s.attached.ports way.neighbour.port)

abbrev pub goes_on_with : SystemState → (came : Neighbour) → Packet → (following : List ℕ) → (options : List Parameter)
    → Effect
goes_on_with s came p following options =
    goes_on_way s came p following options (way_of s (towards p.unit.destination (target_of options)))

-- A packet goes on, unless its source route is complete and doesn't name the router here (section 6.14).
abbrev pub goes_on : SystemState → (came : Neighbour) → Packet → (following : List ℕ) → Effect
goes_on s came p following =
    if is_complete p.options && not (is_named s (target_of p.options)) then discards s p following (reason_code PathNotAcceptable)
    else goes_on_with s came p following (options_behind s p.options)

-- a packet for another address: no host is asked to carry it on, a router forwards it (section 6.5)
abbrev pub passes_by : Role → SystemState → (came : Neighbour) → Packet → (following : List ℕ) → Effect
passes_by Host s came p following = effect_of (tells s (NotMine p.unit.destination))
passes_by Router s came p following = goes_on s came p following

-- A packet comes from a place: its lifetime is over (section 6.4), or it is for the system (section 6.2), or for another address.
abbrev pub packet_comes : SystemState → (came : Neighbour) → Packet → (following : List ℕ) → Effect
packet_comes s came p following =
    if p.lifetime == 0 then discards s p following (reason_code LifetimeExpiredInTransit)
    else if is_own s p.unit.destination then effect_of (receive s p following)
    else passes_by s.configuration.role s came p following

-- octets that break a rule of PDUs are discarded with its reason and place
abbrev pub discard_refused : SystemState → List ℕ → Option OptionRefusal → Deed
discard_refused s octets None = discard s (Unlabelled octets) (reason_code NotSpecified) 0
discard_refused s octets (Some broken) = discard s (Unlabelled octets) broken.reason broken.place

-- what is noted of octets that don't begin as a CLNP PDU: the rule of ES-IS PDUs that they break, with the place (ISO 9542,
-- section 6.12), or that they are alien
abbrev pub unheard_note : Option EsisRefusal → Note
unheard_note None = Alien
unheard_note (Some NotEsis) = Alien
unheard_note (Some (Broken rule place)) = BadEsis rule place

-- Octets come that spell no PDU.
abbrev pub octets_come : SystemState → List ℕ → Deed
octets_come s octets =
    if octet octets 1 == 0x81 then discard_refused s octets (rule_broken octets)
    else tells s (unheard_note (why_refused octets))

-- whether a host was asked for by a group, as one that has the packet's destination (ISO 9542, section 6.6)
abbrev pub is_asked_for : Role → SystemState → (to_group : Bool) → Packet → Bool
is_asked_for Host s to_group p = to_group && (not (p.lifetime == 0) && is_own s p.unit.destination)
is_asked_for Router s to_group p = false

-- then it tells the sender of itself
abbrev pub responds : SystemState → Neighbour → (to_group : Bool) → Packet → Effect
responds s neighbour to_group p =
    if is_asked_for s.configuration.role s to_group p then tells_of_itself s neighbour.port neighbour.snpa else idles s

-- a frame comes from a place, to a group of systems or to this one alone
abbrev pub content_comes : SystemState → Neighbour → (to_group : Bool) → Content → Effect
content_comes s neighbour to_group (Labelled packet following) =
    then_does (packet_comes s neighbour packet following) (λ t. responds t neighbour to_group packet)
content_comes s neighbour to_group (Esis value following) = esis_comes s neighbour value
content_comes s neighbour to_group (Unlabelled octets) = effect_of (octets_come s octets)

-- a moment comes: buffers end, what was heard is forgotten, and a hello may be due
abbrev pub moment_comes : SystemState → ℕ → Effect
moment_comes s now =
    then_does (effect_of (tick s now)) (λ t. then_does (forgets s.moment t) says_hello)

abbrev pub restart : SystemState → Deed
restart s = tells (restarted s) Restart

-- it is congested, or no more
abbrev pub congest : SystemState → (on : Bool) → Deed
congest s on = tells (record s { congested = on }) (Congest on)

-- when the next hello is due of a system that is attached elsewhere: at its next tick, where a port of it moved
abbrev pub hello_after : Change → SystemState → ℕ
hello_after (PortIsAt number port) s = s.moment
hello_after _ s = s.next_hello

-- it is attached elsewhere; what it heard and keeps stays
abbrev pub as_changed : Change → SystemState → SystemState
as_changed change s = record s { attached = changed change s.attached; next_hello = hello_after change s }

-- One step, whatever comes.
abbrev pub step : SystemState → Input → Effect
step s (AsksToSend from to octets ask) = effect_of (make s Dt from to octets ask)
step s (AsksForEcho from to octets) = effect_of (requests_echo s from to octets)
step s (FrameComes port sender to_group content) = content_comes s (record { port = port; snpa = sender }) to_group content
step s (MomentComes now) = moment_comes s now
step s IsRestarted = effect_of (restart s)
step s (IsCongested on) = effect_of (congest s on)
step s (IsChanged change) = idles (as_changed change s)
