use Rattle.std.proofs.Common.{◌+◌, ◌≤◌, length}
use Rattle.clnp_base.specs.Text.{lines_of}
use Rattle.clnp_base.specs.CommandBase.ComesAs.{most_input}
use Rattle.clnp_base.specs.CommandBase.ByLine.{Midway}
use Rattle.captures.specs.CaptureCommands.Pack.{packing}
use Rattle.captures.proofs.capture_commands.pack.pack.Given as goal

abbrev pub invariant-loop-line : goal.invariant-loop-line
invariant-loop-line g l =
    Midway packing 1 (l.number + 1) (lines_of l.text) (lines_of l.left) (g.K.Sink.written l.initial.sink) (g.K.Sink.written l.sink) l.block.items
    × (g.K.Sink.faults l.initial.sink ≤ g.K.Sink.faults l.sink)
    × (l.number + length (lines_of l.left) ≤ most_input)

abbrev pub decreases-loop-line : goal.decreases-loop-line
decreases-loop-line g l = length l.left
