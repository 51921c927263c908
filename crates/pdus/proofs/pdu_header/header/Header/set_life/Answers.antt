use Rattle.std.proofs.Common.{arith}
use Rattle.pdus.specs.PduHeader.Headers.{with_lifetime}
use Rattle.pdus.proofs.PduHeader.Written.{nine_at_least}
use Rattle.pdus.proofs.PduHeader.Changed.{life_set}
use Rattle.pdus.proofs.pdu_header.header.Header.set_life.Goals as goal

pub invariant_of-self : goal.invariant_of-self
invariant_of-self c =
    (with_lifetime c.args.life c.self.invariant.0, life_set c.self.invariant.0 c.args.life _ _ (omega arith) c.self.invariant.1 c.adjust.ensures.changed)

pub adjust-requires-clause-head : goal.adjust-requires-clause-head
adjust-requires-clause-head c = nine_at_least c.self.inside.cells c.self.invariant

pub adjust-requires-clause-last : goal.adjust-requires-clause-last
adjust-requires-clause-last c = omega (arith, nine_at_least c.self.inside.cells c.self.invariant)

pub returns-clause-spells : goal.returns-clause-spells
returns-clause-spells c v h = life_set v c.args.life _ _ (omega arith) (rw c.self.view_is h) c.adjust.ensures.changed
