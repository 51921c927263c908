use Rattle.std.proofs.Common.{◌≡◌, ◌++◌}
use Rattle.clnp_program.proofs.fair_commands.frame.joined.Given as goal

abbrev pub invariant-loop-piece : goal.invariant-loop-piece
invariant-loop-piece l = l.octets.items ++ l.piece-iterator ≡ l.initial.octets.items ++ l.initial.piece-iterator
