use Rattle.std.proofs.Common.{rules}
use Rattle.clnp_systems.proofs.Effects.{host_follows}
use Rattle.clnp_systems.proofs.esis.EsisEntity.hear_as_host.Goals as goal

pub returns-in_ok-hear_router-in-Ish-clause-done : goal.returns-in_ok-hear_router-in-Ish-clause-done
returns-in_ok-hear_router-in-Ish-clause-done c = λ s h same at.
    host_follows c.args.now _ c.args.out.now.items _ s c.in-Ish.title c.args.neighbour c.args.pdu.hold c.args.pdu.body c.args.pdu.suggested c.in-Ish.is
    (search (rules, c.in_ok-hear_router-in-Ish.ensures.outputs))
    (search (rules, c.in_ok-hear_router-in-Ish.ensures.stands, c.follow.ensures))
