use Rattle.clnp_systems.proofs.Rest.{apart_kept, apart_always}
use Rattle.clnp_systems.proofs.laws.uses_of_an_identifier_are_apart.Goals as goal

pub returns : goal.returns
returns c = record { kept = apart_kept; always = apart_always }
