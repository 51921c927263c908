-- The simulated network: its systems, the copies of frames that were ever put on a subnetwork, and its moves.
use Rattle.std.specs.Prelude.{ℕ, zero, suc, ◌+◌, ◌==◌, ◌&&◌, max, not, nat_le, nat_lt, Bool, true, false, if◌then◌else◌, List, [], ◌∷◌, ◌++◌, length, map, sum, slice_get, slice_set, Option, None, Some}
use Rattle.std.specs.List.{list_any, range_with_len}
use Rattle.std.specs.Str.{bytes_eq}
use Rattle.clnp_plan.specs.Pdus.declared.nsap.target.Target.{Target}
use Rattle.clnp_plan.specs.Pdus.declared.nsap.target.Target.TheVariants.{System, EndSystems, Routers}
use Rattle.clnp_plan.specs.Configuration.{SystemConfiguration}
use Rattle.clnp_plan.specs.Journal.{Line, Noted, Transmitted, Void, Late, Injected, Resized, Received, Lost, ForNobody}
use Rattle.clnp_plan.specs.declared.config.Limits.{Limits}
use Rattle.clnp_plan.specs.declared.config.Role.{Role}
use Rattle.clnp_plan.specs.declared.config.Role.TheVariants.{Host, Router}
use Rattle.clnp_plan.specs.declared.config.PortConfig.{PortConfig}
use Rattle.clnp_plan.specs.declared.note.Note.{Note}
use Rattle.clnp_plan.specs.declared.note.Note.TheVariants as note
use Rattle.clnp_plan.specs.SystemTables.declared.forwarding.route.Route.{Route}
use Rattle.clnp_plan.specs.Forwarding.Distinct.{has_prefix}
use Rattle.clnp_plan.specs.ScenarioPlan.Plan.{Plan, Subnetwork, octets_of}
use Rattle.clnp_plan.specs.declared.scenario_plan.event.Event.{Event}
use Rattle.clnp_plan.specs.declared.scenario_plan.event.Event.TheVariants.{Send, Echo, Deliver, Settle, Lose, Tick, Restart, Congest, Inject}
use Rattle.clnp_plan.specs.declared.scenario_plan.event.Event.TheVariants as event
use Rattle.clnp_plan.specs.declared.scenario_plan.event.Move.{Move}
use Rattle.clnp_plan.specs.declared.scenario_plan.event.Move.TheVariants.{One, SettleOne, LoseOne, TickOne, TickSystem}
use Rattle.clnp_machine.specs.Unit.{Maker, DeclaredAt, Outside, DataUnit}
use Rattle.clnp_machine.specs.Change.{PortIsAt, PortTakes, RouteIsGone, RouteIsSet}
use Rattle.clnp_machine.specs.Content.{Content, Labelled, Esis, content_of, frame_of}
use Rattle.clnp_machine.specs.System.{SystemState, first_state, Input, AsksToSend, AsksForEcho, FrameComes, MomentComes, IsRestarted, IsCongested, IsChanged, Output, Transmits, SendsEsis, Notes, Effect}
use Rattle.clnp_machine.specs.Step.{step}

-- a frame on a subnetwork, for good
pub record Copy : Type 0 where
  pub subnet : ℕ
  -- the sender's address there
  pub sender : List ℕ
  pub target : Target
  -- who made what it carries, and when: its unit, or the ES-IS PDU
  pub maker : Maker
  pub birth : ℕ
  pub content : Content

-- A network at a moment. It is labelled: what is on its way says of which unit it is, where the program has octets alone.
pub record LabelledNetwork : Type 0 where
  pub clock : ℕ
  -- each at its own moment, which is its clock
  pub systems : List SystemState
  -- the most octets that a frame may have on each subnetwork
  pub mtus : List ℕ
  -- all units that were made, in the order of their making
  pub units : List DataUnit
  -- in the order of their numbers, which count from 1
  pub copies : List Copy
  -- how many of the copies were settled or lost
  pub cursor : ℕ

-- the clock of a system; the network's where there is none
abbrev pub clock_at : ℕ → Option SystemState → ℕ
clock_at clock None = clock
clock_at clock (Some system) = system.moment

-- the clock by which what somebody made grows old: its maker's, and the network's for what came from outside
abbrev pub clock_of : LabelledNetwork → Maker → ℕ
clock_of w Outside = w.clock
clock_of w (DeclaredAt place) = clock_at w.clock (slice_get w.systems place)

-- the world after a part of a move, and the lines that it wrote
pub record Step : Type 0 where
  pub world : LabelledNetwork
  pub lines : List Line

abbrev pub nothing : LabelledNetwork → Step
nothing w = record { world = w; lines = [] }

-- nothing changes but that a line is written
abbrev pub writes : LabelledNetwork → Line → Step
writes w line = record { world = w; lines = line ∷ [] }

-- one part, and then the next
abbrev pub followed_by : Step → (LabelledNetwork → Step) → Step
followed_by step next = record { world = (next step.world).world; lines = step.lines ++ (next step.world).lines }

-- the copy that a frame makes on a port's subnetwork, where there is such a port
abbrev pub copy_from : Option PortConfig → Target → Maker → (birth : ℕ) → Content → List Copy
copy_from None target maker birth content = []
copy_from (Some port) target maker birth content =
    record {
      subnet = port.subnet;
      sender = port.snpa;
      target = target;
      maker = maker;
      birth = birth;
      content = content;
    } ∷ []

-- a frame goes out on a system's port, as the next copy
abbrev pub sends_frame : SystemState → LabelledNetwork → (port : ℕ) → Target → Maker → (birth : ℕ) → Content → Step
sends_frame system w port target maker birth content =
    record {
      world = record w { copies = w.copies ++ copy_from (slice_get system.attached.ports port) target maker birth content };
      lines = Transmitted system.moment system.configuration.name (length w.copies + 1) port target (frame_of content) ∷ [];
    }

-- One output of a system: its note, or the copy that it puts on a port's subnetwork, which is as old as its unit, and as this
-- moment of the system where it carries an ES-IS PDU.
abbrev pub put_out : SystemState → LabelledNetwork → Output → Step
put_out system w (Notes note) = writes w (Noted system.moment system.configuration.name note)
put_out system w (Transmits port target packet) =
    sends_frame system w port target packet.unit.maker packet.unit.made (Labelled packet [])
put_out system w (SendsEsis port target value) =
    sends_frame system w port target (DeclaredAt system.place) system.moment (Esis value [])

abbrev pub put_all_out : SystemState → LabelledNetwork → List Output → Step
put_all_out system w [] = nothing w
put_all_out system w (output ∷ outputs) = followed_by (put_out system w output) (λ v. put_all_out system v outputs)

-- the system at a place has taken a step
abbrev pub with_effect : LabelledNetwork → ℕ → Effect → LabelledNetwork
with_effect w place effect = record w { systems = slice_set w.systems place effect.after; units = w.units ++ effect.units }

-- and what it gives out goes out
abbrev pub takes_effect : LabelledNetwork → ℕ → Effect → Step
takes_effect w place effect = put_all_out effect.after (with_effect w place effect) effect.outputs

-- something comes to the system at a place, where there is one
abbrev pub comes_to : LabelledNetwork → ℕ → Input → Option SystemState → Step
comes_to w place input None = nothing w
comes_to w place input (Some system) = takes_effect w place (step system input)

abbrev pub comes : LabelledNetwork → ℕ → Input → Step
comes w place input = comes_to w place input (slice_get w.systems place)

-- whether a port with this address on this subnetwork is one that a copy is for; a group is not its sender
abbrev pub reaches : Role → Target → List ℕ → List ℕ → Bool
reaches role (System snpa) sender own = bytes_eq own snpa
reaches Host EndSystems sender own = not (bytes_eq own sender)
reaches Router EndSystems sender own = false
reaches Host Routers sender own = false
reaches Router Routers sender own = not (bytes_eq own sender)

abbrev pub enters : Copy → Role → PortConfig → Bool
enters copy role port = (port.subnet == copy.subnet) && reaches role copy.target copy.sender port.snpa

-- whether a copy is for a system: one of the ports that it has now is one that it is for
abbrev pub is_addressee : Copy → SystemState → Bool
is_addressee copy system = list_any (enters copy system.configuration.role) system.attached.ports

-- the least of a system's ports by which a copy comes in
abbrev pub first_port : Copy → Role → List PortConfig → ℕ
first_port copy role [] = 0
first_port copy role (port ∷ ports) = if enters copy role port then 0 else first_port copy role ports + 1

-- whether a target is a group of systems
abbrev pub is_group : Target → Bool
is_group (System snpa) = false
is_group EndSystems = true
is_group Routers = true

-- what a copy is to a system that it is for
abbrev pub frame_to : SystemState → Copy → Input
frame_to system copy =
    FrameComes (first_port copy system.configuration.role system.attached.ports) copy.sender (is_group copy.target) copy.content

-- the places of the systems that a copy is for, counted from a number on
abbrev pub addressees_from : ℕ → Copy → List SystemState → List ℕ
addressees_from place copy [] = []
addressees_from place copy (system ∷ systems) =
    if is_addressee copy system then place ∷ addressees_from (place + 1) copy systems
    else addressees_from (place + 1) copy systems

-- a copy with its number
pub record Numbered : Type 0 where
  pub number : ℕ
  pub copy : Copy

-- whether a copy is older, by its maker's clock, than one may be that is given: links keep nothing so long
abbrev pub is_late : Limits → LabelledNetwork → Copy → Bool
is_late limits w copy = nat_lt (copy.birth + limits.age) (clock_of w copy.maker)

-- the copy comes to a system at its place: a line tells by which port, and what comes of it follows
abbrev pub hand_to : Numbered → LabelledNetwork → ℕ → SystemState → Step
hand_to given w place system =
    followed_by
    (writes w (Received system.moment system.configuration.name given.number (first_port given.copy system.configuration.role system.attached.ports)))
    (λ v. takes_effect v place (step system (frame_to system given.copy)))

-- the copy is given to a system at its place, unless it is late
abbrev pub give_to : Limits → Numbered → LabelledNetwork → ℕ → Option SystemState → Step
give_to limits given w place None = nothing w
give_to limits given w place (Some system) =
    if is_late limits w given.copy then writes w (Late system.moment system.configuration.name given.number)
    else hand_to given w place system

abbrev pub give : Limits → Numbered → LabelledNetwork → ℕ → Step
give limits given w place = give_to limits given w place (slice_get w.systems place)

abbrev pub give_each : Limits → Numbered → LabelledNetwork → List ℕ → Step
give_each limits given w [] = nothing w
give_each limits given w (place ∷ places) = followed_by (give limits given w place) (λ v. give_each limits given v places)

-- the line of a copy that is settled, where it has no addressees
abbrev pub for_nobody : (now number : ℕ) → (addressees : List ℕ) → List Line
for_nobody now number [] = ForNobody now number ∷ []
for_nobody now number (place ∷ places) = []

-- the copy is given to each of its addressees; a line tells where it has none
abbrev pub settle_for : Limits → Numbered → LabelledNetwork → (addressees : List ℕ) → Step
settle_for limits given w places =
    followed_by (record { world = w; lines = for_nobody w.clock given.number places }) (λ v. give_each limits given v places)

-- the copy at the cursor is given to each of its addressees in the order of the declarations
abbrev pub settle_copy : Limits → LabelledNetwork → Option Copy → Step
settle_copy limits w None = nothing w
settle_copy limits w (Some copy) =
    settle_for limits (record { number = w.cursor + 1; copy = copy }) (record w { cursor = w.cursor + 1 }) (addressees_from 0 copy w.systems)

abbrev pub settle_one : Limits → LabelledNetwork → Step
settle_one limits w = settle_copy limits w (slice_get w.copies w.cursor)

-- the copy at the cursor is given to nobody, and a line tells that it is lost
abbrev pub lose_copy : LabelledNetwork → Option Copy → Step
lose_copy w None = nothing w
lose_copy w (Some copy) = writes (record w { cursor = w.cursor + 1 }) (Lost w.clock (w.cursor + 1))

abbrev pub lose_one : LabelledNetwork → Step
lose_one w = lose_copy w (slice_get w.copies w.cursor)

-- the line of a copy that isn't there, or isn't for the system
abbrev pub is_void : LabelledNetwork → SystemState → ℕ → Step
is_void w system number = writes w (Void system.moment system.configuration.name number)

-- the copy with a number; they are numbered from 1
abbrev pub copy_numbered : ℕ → List Copy → Option Copy
copy_numbered zero copies = None
copy_numbered (suc place) copies = slice_get copies place

-- the copy with a number is given to the system at a place, where it is for it
abbrev pub deliver_to : Limits → LabelledNetwork → ℕ → ℕ → Option Copy → SystemState → Step
deliver_to limits w number place None system = is_void w system number
deliver_to limits w number place (Some copy) system =
    if is_addressee copy system then give limits (record { number = number; copy = copy }) w place
    else is_void w system number

abbrev pub deliver_at : Limits → LabelledNetwork → ℕ → ℕ → Option SystemState → Step
deliver_at limits w number place None = nothing w
deliver_at limits w number place (Some system) = deliver_to limits w number place (copy_numbered number w.copies) system

abbrev pub deliver : Limits → LabelledNetwork → ℕ → ℕ → Step
deliver limits w number place = deliver_at limits w number place (slice_get w.systems place)

-- the clock of a system goes on, and its moment comes to it
abbrev pub goes_on : LabelledNetwork → ℕ → Option SystemState → Step
goes_on w place None = nothing w
goes_on w place (Some system) = comes w place (MomentComes (system.moment + 1))

abbrev pub tick_each : LabelledNetwork → List ℕ → Step
tick_each w [] = nothing w
tick_each w (place ∷ places) =
    followed_by (goes_on w place (slice_get w.systems place)) (λ v. tick_each v places)

-- the network's clock goes on, and that of each system in the order of the declarations
abbrev pub tick_one : LabelledNetwork → Step
tick_one w = tick_each (record w { clock = w.clock + 1 }) (range_with_len 0 (length w.systems))

-- The clock of one system goes on, and the network's where it is passed.
abbrev pub tick_alone : LabelledNetwork → ℕ → Option SystemState → Step
tick_alone w place None = nothing w
tick_alone w place (Some system) = goes_on (record w { clock = max w.clock (system.moment + 1) }) place (Some system)

abbrev pub tick_system : LabelledNetwork → ℕ → Step
tick_system w place = tick_alone w place (slice_get w.systems place)

-- Octets are asked to be sent of a host; nobody asks a router.
abbrev pub asks_role : Role → LabelledNetwork → ℕ → Input → Step
asks_role Host w place asked = comes w place asked
asks_role Router w place asked = nothing w

abbrev pub asks_system : LabelledNetwork → ℕ → Input → Option SystemState → Step
asks_system w place asked None = nothing w
asks_system w place asked (Some system) = asks_role system.configuration.role w place asked

abbrev pub asks : LabelledNetwork → ℕ → Input → Step
asks w place asked = asks_system w place asked (slice_get w.systems place)

-- Octets come from outside on a subnetwork, from an address there: they become the next copy, whose number and moment those
-- of its unit are, where a PDU is in them. Nobody knows who made them.
abbrev pub copy_from_outside : (number moment subnet : ℕ) (sender : List ℕ) → Target → (octets : List ℕ) → Copy
copy_from_outside number moment subnet sender target octets =
    record {
      subnet = subnet;
      sender = sender;
      target = target;
      maker = Outside;
      birth = moment;
      content = content_of number moment octets;
    }

abbrev pub injects_on : LabelledNetwork → (subnet : ℕ) → Option Subnetwork → (sender : List ℕ) → Target
    → (octets : List ℕ) → Step
injects_on w subnet None sender target octets = nothing w
injects_on w subnet (Some declared) sender target octets =
    record {
      world = record w { copies = w.copies ++ copy_from_outside (length w.copies + 1) w.clock subnet sender target octets ∷ [] };
      lines = Injected w.clock (length w.copies + 1) declared.name sender target ∷ [];
    }

abbrev pub injects : List Subnetwork → LabelledNetwork → (subnet : ℕ) (sender : List ℕ) → Target → (octets : List ℕ)
    → Step
injects subnets w subnet sender target octets = injects_on w subnet (slice_get subnets subnet) sender target octets

-- Networks that change. An event does nothing where what it names isn't there.

-- a system's line of what an event changed of it
abbrev pub tells_of : SystemState → Note → LabelledNetwork → Step
tells_of system told w = writes w (Noted system.moment system.configuration.name told)

-- the ports that a system has now
abbrev pub ports_of : Option SystemState → List PortConfig
ports_of None = []
ports_of (Some system) = system.attached.ports

-- a port on another subnetwork, at an address there, which takes frames as long as that does; its transit stays
abbrev pub moved : PortConfig → (subnet mtu : ℕ) → (snpa : List ℕ) → PortConfig
moved port subnet mtu snpa = record port { subnet = subnet; snpa = snpa; mtu = mtu }

abbrev pub moves_port_to : LabelledNetwork → (place number subnet : ℕ) → (snpa : List ℕ) → (mtu : ℕ) → Subnetwork
    → SystemState → Option PortConfig → Step
moves_port_to w place number subnet snpa mtu declared system None = nothing w
moves_port_to w place number subnet snpa mtu declared system (Some port) =
    followed_by (comes w place (IsChanged (PortIsAt number (moved port subnet mtu snpa)))) (tells_of system (note.Port number declared.name snpa))

abbrev pub moves_port_of : LabelledNetwork → (place number subnet : ℕ) → (snpa : List ℕ) → (mtu : ℕ) → Subnetwork
    → Option SystemState → Step
moves_port_of w place number subnet snpa mtu declared None = nothing w
moves_port_of w place number subnet snpa mtu declared (Some system) =
    moves_port_to w place number subnet snpa mtu declared system (slice_get system.attached.ports number)

abbrev pub moves_port_on : LabelledNetwork → (place number subnet : ℕ) → (snpa : List ℕ) → Option Subnetwork → Option ℕ
    → Step
moves_port_on w place number subnet snpa None mtu = nothing w
moves_port_on w place number subnet snpa (Some declared) None = nothing w
moves_port_on w place number subnet snpa (Some declared) (Some mtu) =
    moves_port_of w place number subnet snpa mtu declared (slice_get w.systems place)

-- the port of a system is put on a subnetwork, and takes frames as long as that does now
abbrev pub moves_port : List Subnetwork → LabelledNetwork → (place number subnet : ℕ) → (snpa : List ℕ) → Step
moves_port subnets w place number subnet snpa =
    moves_port_on w place number subnet snpa (slice_get subnets subnet) (slice_get w.mtus subnet)

-- Routes are those of routers; one leads out of a port that is there.
abbrev pub sets_route_as : Role → LabelledNetwork → (place : ℕ) → SystemState → Route → Step
sets_route_as Host w place system route = nothing w
sets_route_as Router w place system route =
    if nat_lt route.port (length system.attached.ports)
    then followed_by (comes w place (IsChanged (RouteIsSet route))) (tells_of system (note.Route route.prefix))
    else nothing w

abbrev pub sets_route_of : LabelledNetwork → (place : ℕ) → Route → Option SystemState → Step
sets_route_of w place route None = nothing w
sets_route_of w place route (Some system) = sets_route_as system.configuration.role w place system route

abbrev pub sets_route : LabelledNetwork → (place : ℕ) → Route → Step
sets_route w place route = sets_route_of w place route (slice_get w.systems place)

abbrev pub removes_route_as : Role → LabelledNetwork → (place : ℕ) → SystemState → (prefix : List ℕ) → Step
removes_route_as Host w place system prefix = nothing w
removes_route_as Router w place system prefix =
    followed_by (comes w place (IsChanged (RouteIsGone prefix)))
    (tells_of system (note.Unroute prefix (list_any (has_prefix prefix) system.attached.routes)))

abbrev pub removes_route_of : LabelledNetwork → (place : ℕ) → (prefix : List ℕ) → Option SystemState → Step
removes_route_of w place prefix None = nothing w
removes_route_of w place prefix (Some system) = removes_route_as system.configuration.role w place system prefix

abbrev pub removes_route : LabelledNetwork → (place : ℕ) → (prefix : List ℕ) → Step
removes_route w place prefix = removes_route_of w place prefix (slice_get w.systems place)

-- a port takes frames of so many octets where it is on the subnetwork
abbrev pub resizes_port_of : LabelledNetwork → (place number subnet mtu : ℕ) → Option PortConfig → Step
resizes_port_of w place number subnet mtu None = nothing w
resizes_port_of w place number subnet mtu (Some port) =
    if port.subnet == subnet then comes w place (IsChanged (PortTakes number mtu)) else nothing w

abbrev pub resizes_port : LabelledNetwork → (place number subnet mtu : ℕ) → Step
resizes_port w place number subnet mtu =
    resizes_port_of w place number subnet mtu (slice_get (ports_of (slice_get w.systems place)) number)

abbrev pub resizes_ports : LabelledNetwork → (place subnet mtu : ℕ) → (numbers : List ℕ) → Step
resizes_ports w place subnet mtu [] = nothing w
resizes_ports w place subnet mtu (number ∷ numbers) =
    followed_by (resizes_port w place number subnet mtu) (λ v. resizes_ports v place subnet mtu numbers)

-- each port of a system does
abbrev pub resizes_at : LabelledNetwork → (place subnet mtu : ℕ) → Step
resizes_at w place subnet mtu = resizes_ports w place subnet mtu (range_with_len 0 (length (ports_of (slice_get w.systems place))))

abbrev pub resizes_each : LabelledNetwork → (subnet mtu : ℕ) → (places : List ℕ) → Step
resizes_each w subnet mtu [] = nothing w
resizes_each w subnet mtu (place ∷ places) = followed_by (resizes_at w place subnet mtu) (λ v. resizes_each v subnet mtu places)

abbrev pub resizes_on : LabelledNetwork → (subnet mtu : ℕ) → Option Subnetwork → Step
resizes_on w subnet mtu None = nothing w
resizes_on w subnet mtu (Some declared) =
    followed_by
    (resizes_each (record w { mtus = slice_set w.mtus subnet mtu }) subnet mtu (range_with_len 0 (length w.systems)))
    (λ v. writes v (Resized v.clock declared.name mtu))

-- a subnetwork takes frames of so many octets from now on, and so do all ports on it
abbrev pub resizes : List Subnetwork → LabelledNetwork → (subnet mtu : ℕ) → Step
resizes subnets w subnet mtu = resizes_on w subnet mtu (slice_get subnets subnet)

-- what an event of one move does
abbrev pub event_happens : List Subnetwork → Limits → LabelledNetwork → Option Event → Step
event_happens subnets limits w None = nothing w
event_happens subnets limits w (Some (Settle count)) = nothing w
event_happens subnets limits w (Some (Lose count)) = nothing w
event_happens subnets limits w (Some (Tick count)) = nothing w
event_happens subnets limits w (Some (event.TickSystem system count)) = nothing w
event_happens subnets limits w (Some (Deliver copy system)) = deliver limits w copy system
event_happens subnets limits w (Some (Restart system)) = comes w system IsRestarted
event_happens subnets limits w (Some (Congest system on)) = comes w system (IsCongested on)
event_happens subnets limits w (Some (Send system from to body ask)) = asks w system (AsksToSend from to (octets_of body) ask)
event_happens subnets limits w (Some (Echo system from to body)) = comes w system (AsksForEcho from to (octets_of body))
event_happens subnets limits w (Some (Inject subnet from to octets)) = injects subnets w subnet from to octets
event_happens subnets limits w (Some (event.Mtu subnet mtu)) = resizes subnets w subnet mtu
event_happens subnets limits w (Some (event.Route system route)) = sets_route w system route
event_happens subnets limits w (Some (event.Unroute system prefix)) = removes_route w system prefix
event_happens subnets limits w (Some (event.Port system number subnet snpa)) = moves_port subnets w system number subnet snpa

-- one move of the network
abbrev pub after : Plan → LabelledNetwork → Move → Step
after plan w (One place) = event_happens plan.subnets plan.limits w (slice_get plan.events place)
after plan w SettleOne = settle_one plan.limits w
after plan w LoseOne = lose_one w
after plan w TickOne = tick_one w
after plan w (TickSystem place) = tick_system w place

-- the systems as they are declared, from a place on
abbrev pub states_from : Limits → ℕ → List SystemConfiguration → List SystemState
states_from limits place [] = []
states_from limits place (system ∷ systems) =
    first_state place system limits 0 0 ∷ states_from limits (place + 1) systems

-- the world of a scenario's declarations
abbrev pub first_world : Plan → LabelledNetwork
first_world plan =
    record {
      clock = 0;
      systems = states_from plan.limits 0 plan.systems;
      mtus = map (λ (subnet : Subnetwork). subnet.mtu) plan.subnets;
      units = [];
      copies = [];
      cursor = 0;
    }

-- what a copy weighs: its octets, and 64
abbrev pub copy_weight : Copy → ℕ
copy_weight copy = length (frame_of copy.content) + 64

abbrev pub weight : LabelledNetwork → ℕ
weight w = sum (map copy_weight w.copies)

-- the weight from which on no move is made
abbrev pub most_weight : ℕ
most_weight = 268435456

abbrev pub is_full : LabelledNetwork → Bool
is_full w = nat_le most_weight (weight w)
