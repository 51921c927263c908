use Rattle.clnp_systems.specs.Endpoint.{entity_of}
use Rattle.clnp_systems.proofs.Echoing.{stands_replied}
use Rattle.clnp_systems.proofs.endpoint.Endpoint.take_reply.Goals as goal

pub returns-clause-stands : goal.returns-clause-stands
returns-clause-stands c = λ table s stands.
    stands_replied (entity_of c.args.self.now table) c.take.new.self s c.args.from c.args.to c.args.octets.now stands
    (c.take.ensures.left s.pending stands.pending)
