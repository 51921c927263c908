use Rattle.std.proofs.Common.{◌+◌, ◌≤◌, length}
use Rattle.clnp_base.specs.Text.{lines_of}
use Rattle.clnp_base.specs.CommandBase.ComesAs.{most_input}
use Rattle.clnp_base.specs.CommandBase.ByLine.{Midway}
use Rattle.captures.specs.CaptureCommands.Check.{checking, first_checked}
use Rattle.captures.proofs.capture_commands.check.check.Given as goal

abbrev pub invariant-loop-line : goal.invariant-loop-line
invariant-loop-line g l =
    Midway checking first_checked (record { number = l.number + 1; tally = l.tally }) (lines_of l.text) (lines_of l.left)
    (g.K.Sink.written l.initial.sink) (g.K.Sink.written l.sink) l.block.items
    × (g.K.Sink.faults l.initial.sink ≤ g.K.Sink.faults l.sink)
    × (l.number + length (lines_of l.left) ≤ most_input)
    × (l.tally.passed + l.tally.failed ≤ l.number)

abbrev pub decreases-loop-line : goal.decreases-loop-line
decreases-loop-line g l = length l.left
