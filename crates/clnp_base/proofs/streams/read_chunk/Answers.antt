use Rattle.std.proofs.Common.{take}
use Rattle.clnp_base.proofs.Pouring.{poured_by}
use Rattle.clnp_base.proofs.streams.read_chunk.Goals as goal

pub returns-in-Ok-extend_from_slice-clause-pours :
    goal.returns-in-Ok-extend_from_slice-clause-pours
returns-in-Ok-extend_from_slice-clause-pours g c =
    poured_by c.args.into.now.items c.reserve.new.self.items c.extend_from_slice.new.self.items (take c.in-Ok.came c.read.new.buf) c.in-Ok.came
    (g.S.Source.left c.args.source.now) (g.S.Source.left c.read.new.self)
    c.reserve.ensures.items c.in-Ok-extend_from_slice.ensures.items c.in-Ok.ensures.octets.0 c.in-Ok.ensures.bound.1
