use Rattle.std.proofs.Common.{◌≤◌, [], take}
use Rattle.system_tables.specs.FairReassembly.Behind.{StandBehind}
use Rattle.system_tables.specs.FairReassembly.Classes.{Shares}
use Rattle.clnp_program.specs.FairCommands.Writing.{UnderWay}
use Rattle.clnp_program.proofs.fair_commands.joining.take_in.Given as goal

abbrev pub invariant-loop-came : goal.invariant-loop-came
invariant-loop-came g l =
    ((s : Shares) → StandBehind s [] l.initial.tables
    → UnderWay s (take l.came-index l.frames) l.tables (g.K.Sink.written l.initial.sink) (g.K.Sink.written l.sink) l.block.items)
    × (g.K.Sink.faults l.initial.sink ≤ g.K.Sink.faults l.sink)
