use Rattle.std.proofs.Common.{length}
use Rattle.pdus.proofs.ClnpOptions.Located.{SoFar}
use Rattle.pdus.proofs.clnp_options.edit.value_range.Given as goal

abbrev pub invariant-loop-found : goal.invariant-loop-found
invariant-loop-found l = SoFar l.part l.code l.rest

abbrev pub decreases-loop-found : goal.decreases-loop-found
decreases-loop-found l = length l.rest
