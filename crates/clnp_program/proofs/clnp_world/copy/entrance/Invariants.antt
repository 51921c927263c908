use Rattle.std.proofs.Common.{◌≤◌}
use Rattle.std.specs.List.{position_or_len}
use Rattle.clnp_program.specs.ClnpWorld.Seen.{enters}
use Rattle.clnp_program.proofs.clnp_world.copy.entrance.Given as goal

abbrev pub invariant-loop-place : goal.invariant-loop-place
invariant-loop-place l = l.place ≤ position_or_len (enters l.copy l.role) l.ports
