-- The octets so far rise by one each.
use Rattle.std.proofs.Common.{◌≡◌, ℕ, ◌+◌, ◌%◌, ◌<◌, get_or}
use Rattle.clnp_plan.proofs.scenario_plan.event.row_from.Given as goal

abbrev pub invariant-loop-octet : goal.invariant-loop-octet
invariant-loop-octet l = record {
  next : l.next ≡ (l.octet-index + l.first) % 256;
  written : (k : ℕ) → k < l.octet-index → get_or l.octet-items k 0 ≡ (k + l.first) % 256;
}
