use Rattle.std.proofs.Common.{◌≡◌, ◌+◌, length}
use Rattle.pdus.specs.ClnpOptions.Parameter.{spelled, parameters}
use Rattle.pdus.proofs.clnp_options.judge.place_of_unfit.Given as goal

abbrev pub invariant-loop-value : goal.invariant-loop-value
invariant-loop-value l = record {
  at : l.place + length l.rest ≡ l.first + length l.part;
  same : l.place + length (spelled (parameters l.rest)) ≡ l.first + length (spelled (parameters l.part));
}

abbrev pub decreases-loop-value : goal.decreases-loop-value
decreases-loop-value l = length l.rest
