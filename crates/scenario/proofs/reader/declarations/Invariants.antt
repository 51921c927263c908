use Rattle.std.proofs.Common.{◌≡◌, ◌<◌, ◌+◌, ◌^◌, length}
use Rattle.clnp_plan.specs.ClnpBase.Text.{lines_of}
use Rattle.scenario.specs.Grammar.{declarations_from}
use Rattle.scenario.proofs.reader.declarations.Given as goal

abbrev pub invariant-loop-line : goal.invariant-loop-line
invariant-loop-line l = record {
  few : l.number + length (lines_of l.left) < 2 ^ 32;
  same : declarations_from l.number l.declared (lines_of l.left) ≡ declarations_from l.fn.number l.fn.declared (lines_of l.text);
}

abbrev pub decreases-loop-line : goal.decreases-loop-line
decreases-loop-line l = length l.left
