use Rattle.std.proofs.Common.{◌≡◌, ◌-◌, ◌≤◌, [], length}
use Rattle.captures.specs.CaptureCommands.Called.{most_octets}
use Rattle.captures.specs.CaptureCommands.Underway.{GoesOn}
use Rattle.captures.proofs.capture_commands.telling.tell_file.Given as goal

abbrev pub invariant-loop-answer : goal.invariant-loop-answer
invariant-loop-answer g l =
    GoesOn l.teller (g.S.Source.left l.initial.source) (g.S.Source.left l.source) (g.K.Sink.written l.initial.sink) (g.K.Sink.written l.sink)
    × (l.teller.form ≡ l.fn.form)
    × (l.teller.size ≤ most_octets)
    × (l.teller.number ≤ l.teller.size)
    × (l.teller.block.items ≡ [])
    × (length l.chunk ≡ 65536)
    × (g.S.Source.faults l.initial.source ≤ g.S.Source.faults l.source)
    × (g.K.Sink.faults l.initial.sink ≤ g.K.Sink.faults l.sink)

abbrev pub decreases-loop-answer : goal.decreases-loop-answer
decreases-loop-answer g l = most_octets - l.teller.size
