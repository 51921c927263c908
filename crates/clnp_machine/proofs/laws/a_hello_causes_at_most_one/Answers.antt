use Rattle.clnp_machine.proofs.Answering.{hello_causes, octets_reported, octets_silent, octets_unanswered, packet_causes}
use Rattle.clnp_machine.proofs.laws.a_hello_causes_at_most_one.Goals as goal

pub returns-clause-hello : goal.returns-clause-hello
returns-clause-hello c s port sender to_group value following = hello_causes s (record { port = port; snpa = sender }) value

pub returns-clause-packet : goal.returns-clause-packet
returns-clause-packet c s port sender to_group p following = packet_causes s (record { port = port; snpa = sender }) to_group p following

pub returns-clause-octets : goal.returns-clause-octets
returns-clause-octets c s port sender to_group octets = octets_silent s octets

pub returns-clause-unreported : goal.returns-clause-unreported
returns-clause-unreported c s port sender to_group octets = octets_unanswered s octets

pub returns-clause-reported : goal.returns-clause-reported
returns-clause-reported c s port sender to_group octets = octets_reported s octets
