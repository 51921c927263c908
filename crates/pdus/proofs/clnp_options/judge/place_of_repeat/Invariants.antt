use Rattle.std.proofs.Common.{◌≡◌, ◌+◌, length}
use Rattle.pdus.proofs.ClnpOptions.Places.{RepeatSoFar}
use Rattle.pdus.proofs.clnp_options.judge.place_of_repeat.Given as goal

abbrev pub invariant-loop-code : goal.invariant-loop-code
invariant-loop-code l = record {
  at : l.place + length l.rest ≡ l.first + length l.part;
  so_far : RepeatSoFar l.seen l.place l.rest l.first l.part;
}

abbrev pub decreases-loop-code : goal.decreases-loop-code
decreases-loop-code l = length l.rest
