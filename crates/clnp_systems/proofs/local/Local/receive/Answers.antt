-- The frame spells the PDU that is read.
use Rattle.std.proofs.Common.{◌≤◌, subst}
use Rattle.clnp_machine.specs.PduHeader.Value.{PduValue}
use Rattle.clnp_machine.specs.PduHeader.View.{pdu_value}
use Rattle.clnp_systems.proofs.local.Local.receive.Goals as goal

pub unreachable-requires : goal.unreachable-requires
unreachable-requires c =
    let alive = c.requires.alive in
    c.in_default.ensures.none alive.0 alive.1 alive.2

pub receive_pdu-requires-clause-front : goal.receive_pdu-requires-clause-front
receive_pdu-requires-clause-front c =
    c.in-Ok.ensures.found

pub receive_pdu-requires-clause-alive : goal.receive_pdu-requires-clause-alive
receive_pdu-requires-clause-alive c =
    let pdu = c.in-Ok.pdu in
    let alive = c.requires.alive in
    let same = (c.one_value.ensures c.args.frame.now alive.0 (pdu_value pdu) alive.1 pdu.rest.now alive.2 c.in-Ok.ensures.found).0 in
    subst (λ (v : PduValue). 1 ≤ v.lifetime) same alive.3
