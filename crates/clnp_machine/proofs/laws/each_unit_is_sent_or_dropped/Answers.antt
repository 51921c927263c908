use Rattle.std.proofs.Common.{true, length}
use Rattle.clnp_plan.specs.Pdus.declared.pdu_header.kind.Kind.TheVariants.{Dt, Erq}
use Rattle.clnp_machine.specs.Local.{echo_ask}
use Rattle.clnp_machine.proofs.GivenOut.{each_given_out}
use Rattle.clnp_machine.proofs.SentUnits.{made_or_refused}
use Rattle.clnp_machine.proofs.laws.each_unit_is_sent_or_dropped.Goals as goal

pub returns-clause-asked : goal.returns-clause-asked
returns-clause-asked c = λ s from to octets ask each. made_or_refused s each s.buffers Dt from to octets ask

pub returns-clause-echo : goal.returns-clause-echo
returns-clause-echo c = λ s from to octets each. made_or_refused s each s.buffers Erq from to octets (echo_ask s from to (length octets) true)

pub returns-clause-each : goal.returns-clause-each
returns-clause-each c = each_given_out
