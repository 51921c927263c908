use Rattle.std.proofs.Common.{ap}
use Rattle.clnp_base.specs.Memory.{Supply}
use Rattle.clnp_base.proofs.Supplying.{supplied}
use Rattle.clnp_base.proofs.memory.MemSourceSource.read.Goals as goal

pub returns-clause-octets : goal.returns-clause-octets
returns-clause-octets c =
    supplied c.args.self.now.left c.self.inside.octets.items c.args.buf.now c.copy_from_slice.new.self c.self.inside.at c.min-came.result c.self.inside.most
    (ap (λ (s : Supply). s.left) c.self.view_is) (rw c.deref-2.ensures.value at c.copy_from_slice.ensures.after)
    (rw (← c.min.ensures) (rw c.deref-2.ensures.value at c.min-came.ensures)) c.self.invariant.0
