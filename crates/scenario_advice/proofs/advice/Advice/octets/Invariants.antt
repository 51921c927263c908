-- What is said grows by each octet.
use Rattle.std.proofs.Common.{◌≤◌, length}
use Rattle.scenario_advice.proofs.advice.Advice.octets.Given as goal

abbrev pub invariant-loop-octet : goal.invariant-loop-octet
invariant-loop-octet l = record {
  longer : length l.initial.self ≤ length l.self;
  some : 1 ≤ l.octet-index → 1 ≤ length l.self;
}
