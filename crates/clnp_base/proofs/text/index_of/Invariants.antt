use Rattle.std.proofs.Common.{◌≡◌, ◌+◌, drop}
use Rattle.clnp_base.specs.Cuts.{index_of}
use Rattle.clnp_base.proofs.text.index_of.Given as goal

abbrev pub invariant-loop-i : goal.invariant-loop-i
invariant-loop-i l = index_of l.wanted (drop l.i l.octets) + l.i ≡ index_of l.wanted l.octets
