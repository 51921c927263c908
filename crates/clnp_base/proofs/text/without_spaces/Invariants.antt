use Rattle.std.proofs.Common.{◌≡◌, ◌≤◌, length}
use Rattle.clnp_base.specs.Text.{words_of}
use Rattle.clnp_base.proofs.text.without_spaces.Given as goal

abbrev pub invariant-loop-left : goal.invariant-loop-left
invariant-loop-left l = (words_of l.left ≡ words_of l.line) × (length l.left ≤ length l.line)

abbrev pub decreases-loop-left : goal.decreases-loop-left
decreases-loop-left l = length l.left
