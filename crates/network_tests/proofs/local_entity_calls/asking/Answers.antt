-- No options break no rule.
use Rattle.std.proofs.Common.{List, ℕ, false, refl, sym, subst}
use Rattle.clnp_machine.specs.ClnpOptions.Grammar.{FitsKind}
use Rattle.clnp_machine.specs.ClnpOptions.Parameter.{parameters}
use Rattle.network_tests.proofs.local_entity_calls.asking.Goals as goal

pub returns : goal.returns
returns g c =
    subst (λ (octets : List ℕ). FitsKind false (parameters octets)) (sym c.in-Ok.ensures.value)
    ((c.spelled_where_no_rule_is_broken.ensures.accepts false _).0 (c.in-Ok.ensures.accepted.0 refl)).kind
