use Rattle.std.proofs.Common.{◌≡◌}
use Rattle.clnp_base.proofs.Pouring.{Poured}
use Rattle.clnp_base.proofs.streams.read_all.Given as goal

abbrev pub invariant-loop-chunk : goal.invariant-loop-chunk
invariant-loop-chunk g l =
    Poured l.room l.limit l.initial.into.items l.into.items (g.S.Source.left l.initial.source) (g.S.Source.left l.source)
    × (g.S.Source.faults l.source ≡ g.S.Source.faults l.initial.source)

abbrev pub decreases-loop-chunk : goal.decreases-loop-chunk
decreases-loop-chunk g l = l.room
