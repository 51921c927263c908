use Rattle.std.proofs.Common.{ℕ, List, ◌≤◌, length}
use Rattle.system_tables.specs.declared.forwarding.route.Route.{Route}
use Rattle.system_tables.specs.Forwarding.Stands.{Stands}
use Rattle.system_tables.proofs.ForwardingFacts.Choosing.{NoneAt}
use Rattle.system_tables.proofs.forwarding.routes.Routes.longest.Given as goal

abbrev pub invariant-loop-len : goal.invariant-loop-len
invariant-loop-len l = (list : List Route) → Stands l.self list → (k : ℕ) → l.len ≤ k → k ≤ length l.digits → NoneAt l.address list k
