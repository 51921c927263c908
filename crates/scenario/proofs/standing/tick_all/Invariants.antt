-- The clocks so far went on.
use Rattle.std.proofs.Common.{◌≡◌, ◌+◌, ◌++◌, map, take, drop}
use Rattle.scenario.proofs.standing.tick_all.Given as goal

abbrev pub invariant-loop-clock : goal.invariant-loop-clock
invariant-loop-clock l = l.clocks ≡ map (λ clock. clock + l.count) (take l.clock-index l.initial.clocks) ++ drop l.clock-index l.initial.clocks
