use Rattle.std.proofs.Common.{length}
use Rattle.codec_tests.proofs.capture_text_calls.vectors_hold.Given as goal

abbrev pub invariant-loop-vector : goal.invariant-loop-vector
invariant-loop-vector l = Unit {0}

abbrev pub decreases-loop-vector : goal.decreases-loop-vector
decreases-loop-vector l = length l.left
