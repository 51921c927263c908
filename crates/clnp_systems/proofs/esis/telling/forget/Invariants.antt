use Rattle.std.proofs.Common.{◌≡◌, ◌≤◌, ◌^◌, ◌-◌, ℕ, List, [], length}
use Rattle.clnp_machine.specs.EsisTables.Fact.{Fact}
use Rattle.clnp_machine.specs.EsisTables.Stands as esis_tables
use Rattle.clnp_machine.specs.EsisTables.Gone.{gone}
use Rattle.clnp_machine.specs.EsisTables.Stands.{limits_of}
use Rattle.clnp_systems.specs.Does.{StaysInFront}
use Rattle.clnp_systems.proofs.Forgetting.{ForgotSoFar}
use Rattle.clnp_systems.proofs.esis.telling.forget.Given as goal

abbrev pub invariant-loop-ended : goal.invariant-loop-ended
invariant-loop-ended l = record {
  limits : limits_of l.tables ≡ limits_of l.initial.tables;
  forgot : (facts : List Fact) (before moment : ℕ) → esis_tables.Stands l.initial.tables facts before [] → before ≤ l.now
      → ForgotSoFar moment l.now l.tables l.initial.out.items l.out.items facts (gone before l.now facts);
  front : StaysInFront l.initial.out.items l.out.items;
}

-- each turn appends a note, and no list has more elements
abbrev pub decreases-loop-ended : goal.decreases-loop-ended
decreases-loop-ended l = 2 ^ 63 - length l.out.items
