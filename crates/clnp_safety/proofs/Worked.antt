-- Worked examples of systems on one subnetwork or two, computed with the definitions: with a checksum and without one, copies that
-- come again, a host that is restarted, an echo, hellos that are said, heard and answered, packets that a router forwards or reports, a
-- network that changes, and clocks that stand apart.
use Rattle.std.proofs.Common.{◌≡◌, ℕ, true, false, List, [], ◌∷◌, refl, Result, Ok, Err, codes}
use Rattle.hex.specs.Hex.{encode_with, decode_pairs}
use Rattle.clnp_machine.specs.Fletcher.Checksum.{sealed, checksum_x, checksum_y}
use Rattle.clnp_machine.specs.ClnpOptions.Parameter.{spelled, parameters_after}
use Rattle.clnp_machine.specs.ClnpOptions.Edits.{edited, target_of, value_of}
use Rattle.clnp_machine.specs.ClnpOptions.Grammar.{joined}
use Rattle.clnp_machine.specs.ClnpOptions.Rules.{refusal as options_refusal, form_refusal, list_refusal, place_of, place_of_repeat}
use Rattle.clnp_machine.specs.PduHeader.Rules.{extent_refusal, fixed_part_refusal, addresses_refusal, lengths_refusal, header_refusal, refusal}
use Rattle.clnp_machine.specs.EsisPdus.Timer.{seconds_of}
use Rattle.clnp_machine.specs.SystemTables.declared.forwarding.route.Route.{Route}
use Rattle.clnp_machine.specs.ClnpPlan.Configuration.{SystemConfiguration}
use Rattle.clnp_machine.specs.ClnpPlan.declared.config.PortConfig.{PortConfig}
use Rattle.clnp_machine.specs.ClnpPlan.declared.config.Role.TheVariants.{Host, Router}
use Rattle.clnp_machine.specs.ClnpPlan.declared.config.Settings.{Settings}
use Rattle.clnp_machine.specs.ScenarioPlan.Plan.{Plan}
use Rattle.clnp_machine.specs.ClnpPlan.declared.scenario_plan.event.Event.{Event}
use Rattle.clnp_machine.specs.ClnpPlan.declared.scenario_plan.event.Body.TheVariants.{Hex}
use Rattle.clnp_machine.specs.ClnpPlan.declared.scenario_plan.event.Event.TheVariants.{Send, Settle, Tick, Inject, Mtu, Route as SetRoute, Unroute, Port}
use Rattle.scenario.specs.Grammar.{BadLine, plan_of, plan_at, events_from, counted_event}
use Rattle.scenario.specs.Declarations.{limits_line, subnet_line, room_word, setting_word, system_line, address_line, port_line, declaration_line}
use Rattle.scenario.specs.Events.{wish_word, send_line, deliver_line, tick_line, tick_system_line, ticks_line, restart_line, echo_line, count_line, inject_line, change_line, mtu_line, port_line as moved_line, event_line}
use Rattle.clnp_machine.specs.Pdus.declared.nsap.target.Target.TheVariants.{System}
use Rattle.clnp_machine.specs.Nsap.Prefix.{digits_of}
use Rattle.clnp_machine.specs.Nsap.Text.{octets_of}
use Rattle.std.specs.Fmt.{digits}
use Rattle.clnp_machine.specs.ClnpNetwork.Run.{journal, trace}

abbrev two_hosts : List ℕ
two_hosts = codes "clnp-sim 1\nsubnet lan 1500\nsystem a host hello=0\nsystem b host hello=0\naddress a 47002702\naddress b 47002701\nport a 0 lan 01\nport b 0 lan 02\nevents\nsend a 47002702 47002701 hex:6869 life=10 whole\nsettle 1\nend\n"

abbrev two_hosts_unsealed : List ℕ
two_hosts_unsealed = codes "clnp-sim 1\nsubnet lan 1500\nsystem a host hello=0 checksum=off\nsystem b host hello=0 checksum=off\naddress a 47002702\naddress b 47002701\nport a 0 lan 01\nport b 0 lan 02\nevents\nsend a 47002702 47002701 hex:6869 life=10 whole\nsettle 1\nend\n"

abbrev two_deliveries : List ℕ
two_deliveries = codes "clnp-sim 1\nsubnet lan 1500\nsystem a host hello=0\nsystem b host hello=0\naddress a 47002702\naddress b 47002701\nport a 0 lan 01\nport b 0 lan 02\nevents\nsend a 47002702 47002701 hex:6869 life=10 whole\ndeliver 1 b\ndeliver 1 b\ndeliver 2 b\nend\n"

abbrev restart : List ℕ
restart = codes "clnp-sim 1\nlimits 4 2 6\nsubnet lan 1500\nsystem a host hello=0\nsystem b host hello=0\naddress a 47002702\naddress b 47002701\nport a 0 lan 01\nport b 0 lan 02\nevents\nsend a 47002702 47002701 hex:6869\ntick 1\nrestart a\nsend a 47002702 47002701 hex:6869\ntick 4\ndeliver 1 b\nend\n"

abbrev echo : List ℕ
echo = codes "clnp-sim 1\nsubnet lan 1500\nsystem a host hello=0\nsystem b host hello=0\naddress a 47002702\naddress b 47002701\nport a 0 lan 01\nport b 0 lan 02\nevents\necho a 47002702 47002701 hex:6869\nsettle 2\ndeliver 2 a\nend\n"

abbrev alien : List ℕ
alien = codes "clnp-sim 1\nsubnet lan 1500\nsystem a host hello=0\nsystem b host hello=0\naddress a 47002702\naddress b 47002701\nport a 0 lan 01\nport b 0 lan 02\nevents\ninject lan 03 02 00\nsettle 1\nend\n"

-- copies that come to hosts, that is for nobody, that is lost, and that is late
abbrev becoming : List ℕ
becoming = codes "clnp-sim 1\nlimits 4 2 6\nsubnet lan 1500\nsystem a host hello=0\nsystem b host hello=0\nsystem c host hello=0\naddress a 47002702\naddress b 47002701\naddress c 47002703\nport a 0 lan 01\nport b 0 lan 02\nport c 0 lan 03\nevents\nsend a 47002702 47002701 hex:6869 life=10 whole\nsettle 1\ninject lan 09 44 00\nsettle 1\ninject lan 09 02 00\nlose 1\ntick 5\ndeliver 1 b\nend\n"

-- a host that is put on another subnetwork before a copy for it is settled
abbrev leaving : List ℕ
leaving = codes "clnp-sim 2\nlimits 256 60 320 0\nsubnet lan 1500\nsubnet far 1500\nsystem a host hello=0\nsystem b host hello=0\naddress a 47002702\naddress b 47002701\nport a 0 lan 01\nport b 0 lan 02\nevents\nsend a 47002702 47002701 hex:6869 life=10 whole\nport b 0 far 05\nmtu lan 512\nsettle 1\nend\n"

-- a copy that comes twice, and is too old the second time by its maker's clock, which is ahead of the other one
abbrev aging : List ℕ
aging = codes "clnp-sim 2\nlimits 4 2 10 2\nsubnet lan 512\nsystem a host hello=0\nsystem b host hello=0\naddress a 47002702\naddress b 47002701\nport a 0 lan 01\nport b 0 lan 02\nevents\nsend a 47002702 47002701 hex:6869 life=10 whole\ntick a 2\ntick 2\ndeliver 1 b\ntick 1\ndeliver 1 b\ntick b 1\nend\n"

abbrev written : Result Plan BadLine → List ℕ
written (Ok plan) = journal plan
written (Err bad) = codes "bad"

abbrev traced : Result Plan BadLine → List ℕ
traced (Ok plan) = trace plan
traced (Err bad) = codes "bad"

journal-two_hosts : written (plan_of two_hosts) ≡ codes "0 a sent dt 1 - 47002702 47002701 2\n0 a tx 1 0 es 8113010a3c0015ce58044700270104470027026869\n0 b got 47002702 47002701 6869\nend 0 1\n"
unfolding parameters_after encode_with decode_pairs sealed checksum_x checksum_y spelled octets_of digits plan_at events_from counted_event limits_line subnet_line room_word setting_word system_line address_line port_line declaration_line wish_word send_line deliver_line tick_line tick_system_line ticks_line restart_line count_line event_line
journal-two_hosts = refl

journal-two_hosts_unsealed : written (plan_of two_hosts_unsealed) ≡ codes "0 a sent dt 1 - 47002702 47002701 2\n0 a tx 1 0 es 8113010a3c00150000044700270104470027026869\n0 b got 47002702 47002701 6869\nend 0 1\n"
unfolding parameters_after encode_with decode_pairs spelled octets_of digits plan_at events_from counted_event limits_line subnet_line room_word setting_word system_line address_line port_line declaration_line wish_word send_line deliver_line tick_line tick_system_line ticks_line restart_line count_line event_line
journal-two_hosts_unsealed = refl

journal-two_deliveries : written (plan_of two_deliveries) ≡ codes "0 a sent dt 1 - 47002702 47002701 2\n0 a tx 1 0 es 8113010a3c0015ce58044700270104470027026869\n0 b got 47002702 47002701 6869\n0 b got 47002702 47002701 6869\n0 b void 2\nend 0 1\n"
unfolding parameters_after encode_with decode_pairs sealed checksum_x checksum_y spelled octets_of digits plan_at events_from counted_event limits_line subnet_line room_word setting_word system_line address_line port_line declaration_line wish_word send_line deliver_line tick_line tick_system_line ticks_line restart_line count_line event_line
journal-two_deliveries = refl

journal-restart : written (plan_of restart) ≡ codes "0 a sent dt 1 0000 47002702 47002701 2\n0 a tx 1 0 es 81190140bc001b39100447002701044700270200000000001b6869\n1 a restart\n1 a refused quiet 7\n5 b late 1\nend 5 1\n"
unfolding parameters_after encode_with decode_pairs sealed checksum_x checksum_y spelled octets_of digits plan_at events_from counted_event limits_line subnet_line room_word setting_word system_line address_line port_line declaration_line wish_word send_line deliver_line tick_line tick_system_line ticks_line restart_line count_line event_line
journal-restart = refl

-- an echo request is answered once, and a reply that comes again answers nothing
journal-echo : written (plan_of echo) ≡ codes "0 a sent erq 1 - 47002702 47002701 2\n0 a tx 1 0 es 811301403e0015b737044700270104470027026869\n0 b sent erp 1 - 47002701 47002702 2\n0 b tx 2 0 es 811301401f00152fde044700270204470027016869\n0 a echoed 47002701 47002702 1\n0 a stray 47002701 47002702\nend 0 2\n"
unfolding parameters_after encode_with decode_pairs sealed checksum_x checksum_y spelled octets_of digits plan_at events_from counted_event limits_line subnet_line room_word setting_word system_line address_line port_line declaration_line wish_word send_line deliver_line tick_line tick_system_line ticks_line restart_line echo_line count_line event_line
journal-echo = refl

-- a frame of no protocol
journal-alien : written (plan_of alien) ≡ codes "0 - inject 1 lan 03 02\n0 b alien\nend 0 1\n"
unfolding parameters_after encode_with decode_pairs octets_of digits plan_at events_from counted_event limits_line subnet_line room_word setting_word system_line address_line port_line declaration_line wish_word send_line deliver_line tick_line tick_system_line ticks_line restart_line count_line inject_line event_line
journal-alien = refl

-- what becomes of each copy is told where it happens
trace-becoming : traced (plan_of becoming) ≡ codes "0 a sent dt 1 - 47002702 47002701 2\n0 a tx 1 0 es 8113010a3c0015ce58044700270104470027026869\n0 b rx 1 0\n0 b got 47002702 47002701 6869\n0 c rx 1 0\n0 c notmine 47002701\n0 - inject 2 lan 09 44\n0 - nobody 2\n0 - inject 3 lan 09 02\n0 - lost 3\n5 b late 1\nend 5 3\n"
unfolding parameters_after encode_with decode_pairs sealed checksum_x checksum_y spelled octets_of digits plan_at events_from counted_event limits_line subnet_line room_word setting_word system_line address_line port_line declaration_line wish_word send_line deliver_line tick_line tick_system_line ticks_line restart_line count_line inject_line event_line
trace-becoming = refl

-- whom a copy is for is seen when it is settled
trace-leaving : traced (plan_of leaving) ≡ codes "0 a sent dt 1 - 47002702 47002701 2\n0 a tx 1 0 es 8113010a3c0015ce58044700270104470027026869\n0 b port 0 far 05\n0 - mtu lan 512\n0 - nobody 1\nend 0 1\n"
unfolding parameters_after encode_with decode_pairs sealed checksum_x checksum_y spelled octets_of digits plan_at events_from counted_event limits_line subnet_line room_word setting_word system_line address_line port_line declaration_line wish_word send_line deliver_line tick_line tick_system_line ticks_line restart_line count_line inject_line change_line mtu_line moved_line event_line
trace-leaving = refl

-- each line has the clock of the system that it names
journal-aging : written (plan_of aging) ≡ codes "0 a sent dt 1 - 47002702 47002701 2\n0 a tx 1 0 es 8113010a3c0015ce58044700270104470027026869\n2 b got 47002702 47002701 6869\n3 b late 1\nend 5 1\n"
unfolding parameters_after encode_with decode_pairs sealed checksum_x checksum_y spelled octets_of digits plan_at events_from counted_event limits_line subnet_line room_word setting_word system_line address_line port_line declaration_line wish_word send_line deliver_line tick_line tick_system_line ticks_line restart_line count_line event_line
journal-aging = refl

-- Two hosts and a router that say hello.

abbrev defaults : Settings
defaults = record {
  hello = 60;
  suggest = 0;
  rhold = 120;
  slots = 16;
  segments = 1024;
  budget = 262144;
  neighbours = 64;
  routers = 8;
  redirects = 64;
  life = 64;
  sealed = true;
}

abbrev on_subnetwork : ℕ → List ℕ → PortConfig
on_subnetwork subnet snpa = record { subnet = subnet; snpa = snpa; transit = 1; mtu = 1500 }

abbrev on_lan : List ℕ → PortConfig
on_lan = on_subnetwork 0

abbrev a_host : (name address : List ℕ) → PortConfig → Settings → SystemConfiguration
a_host name address port settings =
    record { name = name; role = Host; addresses = address ∷ []; ports = port ∷ []; routes = []; settings = settings }

abbrev router_r : List PortConfig → List Route → Settings → SystemConfiguration
router_r ports routes settings =
    record { name = codes "r"; role = Router; addresses = (0x47 ∷ 0 ∷ 0x27 ∷ 0xff ∷ []) ∷ []; ports = ports; routes = routes; settings = settings }

-- the addresses of two hosts
abbrev of_a : List ℕ
of_a = 0x47 ∷ 0 ∷ 0x27 ∷ 2 ∷ []

abbrev of_b : List ℕ
of_b = 0x47 ∷ 0 ∷ 0x27 ∷ 1 ∷ []

abbrev on_one_subnetwork : (router : Settings) → List Event → Plan
on_one_subnetwork router events = record {
  version = 1;
  limits = record { age = 256; hold = 60; reuse = 320; skew = 0 };
  subnets = record { name = codes "lan"; mtu = 1500 } ∷ [];
  systems =
      a_host (codes "a") of_a (on_lan (1 ∷ [])) defaults
      ∷ a_host (codes "b") of_b (on_lan (2 ∷ [])) defaults
      ∷ router_r (on_lan (10 ∷ []) ∷ []) [] router
      ∷ [];
  events = events;
}

journal-hellos : journal (on_one_subnetwork defaults (Tick 1 ∷ Settle 10 ∷ [])) ≡ codes "1 a tx 1 0 is 820f0100020078324b010447002702\n1 b tx 2 0 is 820f01000200782c52010447002701\n1 r tx 3 0 es 820e0100040078b1cd04470027ff\n1 r hear es 47002702 new\n1 r tx 4 0 01 820e0100040078b1cd04470027ff\n1 r hear es 47002701 new\n1 r tx 5 0 02 820e0100040078b1cd04470027ff\n1 a hear is 470027ff new\n1 a tx 6 0 0a 820f0100020078324b010447002702\n1 b hear is 470027ff new\n1 b tx 7 0 0a 820f01000200782c52010447002701\n1 a hear is 470027ff again\n1 b hear is 470027ff again\n1 r hear es 47002702 again\n1 r hear es 47002701 again\nend 1 7\n"
unfolding encode_with sealed checksum_x checksum_y spelled joined digits seconds_of
journal-hellos = refl

-- a router that asks end systems to say hello every 30 seconds
journal-suggested : journal (on_one_subnetwork (record defaults { suggest = 30 }) (Tick 1 ∷ [])) ≡ codes "1 a tx 1 0 is 820f0100020078324b010447002702\n1 b tx 2 0 is 820f01000200782c52010447002701\n1 r tx 3 0 es 821201000400785b3904470027ffc602001e\nend 1 3\n"
unfolding encode_with sealed checksum_x checksum_y spelled joined digits seconds_of
journal-suggested = refl

-- A router between two subnetworks, with a route to each of two hosts that say nothing: what one sends to the other goes on, with
-- one hop more and its lifetime lower by one.

abbrev silent : Settings
silent = record defaults { hello = 0 }

-- a route to the host with this address alone, which is the title too
abbrev to_host : (address : List ℕ) (port : ℕ) (snpa : List ℕ) → Route
to_host address port snpa = record { prefix = digits_of address; port = port; snpa = snpa; title = address }

abbrev to_both : List Route
to_both = to_host of_b 1 (2 ∷ []) ∷ to_host of_a 0 (1 ∷ []) ∷ []

abbrev sent_across : (to : List ℕ) → Plan
sent_across to = record {
  version = 1;
  limits = record { age = 256; hold = 60; reuse = 320; skew = 0 };
  subnets = record { name = codes "one"; mtu = 1500 } ∷ record { name = codes "two"; mtu = 1500 } ∷ [];
  systems =
      a_host (codes "a") of_a (on_subnetwork 0 (1 ∷ [])) silent
      ∷ router_r (on_subnetwork 0 (10 ∷ []) ∷ on_subnetwork 1 (11 ∷ []) ∷ []) to_both defaults
      ∷ a_host (codes "b") of_b (on_subnetwork 1 (2 ∷ [])) silent
      ∷ [];
  events =
      Tick 1 ∷ Settle 2
      ∷ Send 0 of_a to (Hex (0x68 ∷ 0x69 ∷ [])) (record { life = 10; report = true; segment = false; options = [] })
      ∷ Settle 2 ∷ [];
}

journal-across_a_router : journal (sent_across of_b) ≡ codes "1 r tx 1 0 es 820e0100040078b1cd04470027ff\n1 r tx 2 1 es 820e0100040078b1cd04470027ff\n1 a hear is 470027ff new\n1 b hear is 470027ff new\n1 a sent dt 1 - 47002702 47002701 2\n1 a tx 3 0 0a 8113010a3c0015ce58044700270104470027026869\n1 r tx 4 1 02 811301093c0015d354044700270104470027026869\n1 b got 47002702 47002701 6869\nend 1 4\n"
unfolding target_of value_of edited parameters_after encode_with sealed checksum_x checksum_y spelled joined digits seconds_of
journal-across_a_router = refl

-- a host that the router has no way to: the discard is reported, with the header that came
journal-reported : journal (sent_across (0x47 ∷ 0 ∷ 0x27 ∷ 3 ∷ [])) ≡ codes "1 r tx 1 0 es 820e0100040078b1cd04470027ff\n1 r tx 2 1 es 820e0100040078b1cd04470027ff\n1 a hear is 470027ff new\n1 b hear is 470027ff new\n1 a sent dt 1 - 47002702 47002703 2\n1 a tx 3 0 0a 8113010a3c0015d84c044700270304470027026869\n1 r drop 81 00\n1 r sent er 1 - 470027ff 47002702 19\n1 r tx 4 0 01 8117014001002a5678044700270204470027ffc10281008113010a3c0015d84c04470027030447002702\n1 a report 470027ff 47002702 81 00 8113010a3c0015d84c04470027030447002702\nend 1 4\n"
unfolding extent_refusal target_of value_of edited parameters_after encode_with sealed checksum_x checksum_y spelled joined digits seconds_of
journal-reported = refl

-- the host and the router's route to it come to the first subnetwork, so that what is sent to it goes on there; what the events change
-- is told, and so is whether a route was there
abbrev moved_across : Plan
moved_across = record (sent_across of_b) {
  version = 2;
  events =
      Tick 1 ∷ Settle 2 ∷ Port 2 0 0 (2 ∷ []) ∷ SetRoute 1 (to_host of_b 0 (2 ∷ []))
      ∷ Send 0 of_a of_b (Hex (0x68 ∷ 0x69 ∷ [])) (record { life = 10; report = true; segment = false; options = [] })
      ∷ Settle 2 ∷ Unroute 1 (4 ∷ 8 ∷ []) ∷ Unroute 1 (digits_of of_b) ∷ Mtu 1 512 ∷ [];
}

journal-moved : journal moved_across ≡ codes "1 r tx 1 0 es 820e0100040078b1cd04470027ff\n1 r tx 2 1 es 820e0100040078b1cd04470027ff\n1 a hear is 470027ff new\n1 b hear is 470027ff new\n1 b port 0 one 02\n1 r route 47002701\n1 a sent dt 1 - 47002702 47002701 2\n1 a tx 3 0 0a 8113010a3c0015ce58044700270104470027026869\n1 r tx 4 0 02 811301093c0015d354044700270104470027026869\n1 b got 47002702 47002701 6869\n1 r unroute 48 no\n1 r unroute 47002701 yes\n1 - mtu two 512\nend 1 4\n"
unfolding target_of value_of edited parameters_after encode_with sealed checksum_x checksum_y spelled joined digits seconds_of
journal-moved = refl

abbrev from_outside : List ℕ → Plan
from_outside octets = record {
  version = 1;
  limits = record { age = 256; hold = 60; reuse = 320; skew = 0 };
  subnets = record { name = codes "lan"; mtu = 1500 } ∷ [];
  systems = a_host (codes "a") of_a (on_lan (1 ∷ [])) silent ∷ a_host (codes "b") of_b (on_lan (2 ∷ [])) silent ∷ [];
  events = Inject 0 (3 ∷ []) (System (2 ∷ [])) octets ∷ Settle 1 ∷ [];
}

abbrev pdu : List ℕ
pdu = 0x81 ∷ 0x13 ∷ 1 ∷ 10 ∷ 0x3c ∷ 0 ∷ 0x15 ∷ 0xce ∷ 0x58 ∷ 4 ∷ 0x47 ∷ 0 ∷ 0x27 ∷ 1 ∷ 4 ∷ 0x47 ∷ 0 ∷ 0x27 ∷ 2 ∷ 0x68 ∷ 0x69 ∷ []

-- a PDU that no system of the scenario sent
journal-from_outside : journal (from_outside pdu) ≡ codes "0 - inject 1 lan 03 02\n0 b got 47002702 47002701 6869\nend 0 1\n"
unfolding refusal extent_refusal header_refusal fixed_part_refusal addresses_refusal lengths_refusal options_refusal form_refusal list_refusal place_of place_of_repeat parameters_after encode_with digits spelled sealed
journal-from_outside = refl
