use Rattle.std.proofs.Common.{◌≡◌, ◌<◌, ◌+◌, ◌^◌, length}
use Rattle.scenario.specs.ClnpBase.Text.{lines_of}
use Rattle.clnp_program.specs.FairCommands.Grammar.{shares_from}
use Rattle.clnp_program.proofs.fair_commands.capture_reader.shares_of.Given as goal

abbrev pub invariant-loop-line : goal.invariant-loop-line
invariant-loop-line l = record {
  few : l.number + length (lines_of l.left) < 2 ^ 32;
  same : shares_from l.number l.others l.shares.items (lines_of l.left) ≡ shares_from l.fn.number l.others l.fn.shares.items (lines_of l.text);
}

abbrev pub decreases-loop-line : goal.decreases-loop-line
decreases-loop-line l = length l.left
