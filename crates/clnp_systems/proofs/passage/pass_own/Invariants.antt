use Rattle.std.proofs.Common.{◌≡◌, ◌-◌}
use Rattle.clnp_machine.specs.PduHeader.Headers.{IsHeader, SpellsHeader}
use Rattle.clnp_machine.specs.PduHeader.Value.{PduValue}
use Rattle.clnp_machine.specs.Esis.{title_of}
use Rattle.clnp_machine.specs.Step.{most_titles}
use Rattle.clnp_machine.specs.System.{SystemState}
use Rattle.clnp_systems.proofs.Behind.{IsPassing}
use Rattle.clnp_systems.proofs.passage.pass_own.Given as goal

abbrev pub invariant-loop : goal.invariant-loop
invariant-loop l = record {
  passing : (s : SystemState) (v : PduValue) → title_of s ≡ l.title → SpellsHeader v l.fn.head
      → IsPassing most_titles (most_titles - l.counter) s v l.head;
  header : IsHeader l.head;
}
