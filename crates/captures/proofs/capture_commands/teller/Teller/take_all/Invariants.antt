use Rattle.std.proofs.Common.{◌≡◌, ◌+◌, ◌≤◌, length}
use Rattle.captures.proofs.CaptureCommands.Steps.{TookFront}
use Rattle.captures.proofs.capture_commands.teller.Teller.take_all.Given as goal

abbrev pub invariant-loop-left : goal.invariant-loop-left
invariant-loop-left g l =
    TookFront l.initial.self l.self l.piece l.left (g.K.Sink.written l.initial.sink) (g.K.Sink.written l.sink)
    × (l.self.size + length l.left ≡ l.initial.self.size + length l.piece)
    × (l.self.number ≤ l.self.size)
    × (g.K.Sink.faults l.initial.sink ≤ g.K.Sink.faults l.sink)

abbrev pub decreases-loop-left : goal.decreases-loop-left
decreases-loop-left g l = length l.left
