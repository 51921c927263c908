-- The rows so far.
use Rattle.std.proofs.Common.{◌≡◌, ◌+◌, ◌*◌, ◌/◌, ◌%◌, map, min}
use Rattle.std.specs.List.{range_with_len}
use Rattle.clnp_plan.proofs.scenario_plan.event.pattern.Given as goal

abbrev pub invariant-loop-number : goal.invariant-loop-number
invariant-loop-number l = l.octets.items ≡ map (λ q. (q + q / 256 + l.start) % 256) (range_with_len 0 (min l.all (l.number * 256)))
