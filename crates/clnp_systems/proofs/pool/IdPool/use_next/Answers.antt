use Rattle.clnp_systems.proofs.Pools.{stands_noted}
use Rattle.clnp_systems.proofs.pool.IdPool.use_next.Goals as goal

pub returns-clause-stands : goal.returns-clause-stands
returns-clause-stands c ids = stands_noted c.args.self.now c.note_use.new.self ids c.args.now c.note_use.ensures.again c.note_use.ensures.first
