use Rattle.std.proofs.Common.{◌≡◌, ◌<◌, ◌+◌, ◌^◌, length}
use Rattle.scenario.specs.ClnpBase.Text.{lines_of}
use Rattle.scenario.specs.Grammar.{nothing_after}
use Rattle.clnp_program.proofs.fair_commands.capture_reader.nothing_after.Given as goal

abbrev pub invariant-loop-line : goal.invariant-loop-line
invariant-loop-line l = record {
  few : l.number + length (lines_of l.left) < 2 ^ 32;
  same : nothing_after l.number (lines_of l.left) ≡ nothing_after l.fn.number (lines_of l.text);
}

abbrev pub decreases-loop-line : goal.decreases-loop-line
decreases-loop-line l = length l.left
