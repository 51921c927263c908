use Rattle.std.proofs.Common.{length}
use Rattle.codec_tests.proofs.capture_text_calls.are_no_lines.Given as goal

abbrev pub invariant-loop-change : goal.invariant-loop-change
invariant-loop-change l = Unit {0}

abbrev pub decreases-loop-change : goal.decreases-loop-change
decreases-loop-change l = length l.left
