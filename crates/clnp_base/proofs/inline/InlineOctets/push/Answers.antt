use Rattle.std.proofs.Common.{ap, arith, length}
use Rattle.clnp_base.specs.Inline.{len_again}
use Rattle.clnp_base.proofs.Laid.{inline-laid}
use Rattle.clnp_base.proofs.inline.InlineOctets.push.Goals as goal

pub invariant_of-self : goal.invariant_of-self
invariant_of-self g c =
    rw c.lay.ensures
    (inline-laid g.row.MOST c.self.inside.len c.self.inside.cells c.args.piece.now c.self.invariant
    (omega (arith, len_again g.row.MOST c.self.inside.len c.self.inside.cells c.self.invariant, ap length c.self.view_is, c.requires)))
