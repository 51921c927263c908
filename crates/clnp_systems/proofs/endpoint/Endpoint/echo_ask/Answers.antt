use Rattle.std.proofs.Common.{sym, subst, ℕ, false, List}
use Rattle.clnp_machine.specs.ClnpOptions.Grammar.{FitsKind}
use Rattle.clnp_machine.specs.ClnpOptions.Parameter.{parameters}
use Rattle.clnp_systems.proofs.endpoint.Endpoint.echo_ask.Goals as goal
use Rattle.clnp_machine.proofs.ClnpOptions.Agree.{none_fit}

pub returns-clause-options : goal.returns-clause-options
returns-clause-options c = subst (λ (octets : List ℕ). FitsKind false (parameters octets)) (sym c.new.ensures) none_fit
