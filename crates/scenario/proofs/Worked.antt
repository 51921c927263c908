-- Worked examples of scenario texts, read with the definitions.
use Rattle.std.proofs.Common.{◌≡◌, Ok, codes, refl}
use Rattle.std.specs.Fmt.{digits}
use Rattle.hex.specs.Hex.{decode_pairs}
use Rattle.clnp_plan.specs.Nsap.Text.{octets_of}
use Rattle.scenario.specs.Grammar.{plan_of, plan_at, events_from, counted_event}
use Rattle.scenario.specs.Declarations.{limits_line, subnet_line, room_word, setting_word, system_line, address_line, port_line, route_line, declaration_line}
use Rattle.scenario.specs.Events.{wish_word, send_line, deliver_line, tick_line, tick_system_line, ticks_line, restart_line, count_line, event_line}
use Rattle.clnp_plan.proofs.ScenarioPlan.WorkedPlans.{host_plan, router_plan}

host_is_read : plan_of (codes "clnp-sim 1\nsubnet lan 1500\nsystem a host hello=0\naddress a 47002702\nport a 0 lan 01\nevents\nsend a 47002702 47002701 hex:6869\ntick 320\nsend a 47002702 47002701 hex:6869\nend\n") ≡ Ok host_plan
unfolding decode_pairs octets_of digits plan_at events_from counted_event limits_line subnet_line room_word setting_word system_line address_line port_line declaration_line wish_word send_line deliver_line tick_line tick_system_line ticks_line restart_line count_line event_line
host_is_read = refl

router_is_read : plan_of (codes "clnp-sim 1\nsubnet one 1500\nsubnet two 1500\nsystem r router hello=0\naddress r 470027ff\nport r 0 one 0a\nport r 1 two 0b\nroute r 47002701 1 02 47002701\nroute r 47002702 0 01 47002702\nevents\nend\n") ≡ Ok router_plan
unfolding decode_pairs octets_of digits plan_at events_from counted_event limits_line subnet_line room_word setting_word system_line address_line port_line route_line declaration_line event_line
router_is_read = refl
