-- Whatever comes of a step, the system keeps its role.
use Rattle.std.proofs.Common.{◌≡◌, ◌∙◌, ap, List, Result, Ok, Err, OnOk, OnErr}
use Rattle.clnp_machine.specs.ClnpPlan.Configuration.{SystemConfiguration}
use Rattle.clnp_machine.specs.ClnpPlan.declared.config.Role.{Role}
use Rattle.clnp_machine.specs.ClnpPlan.declared.output.Output.{Output}
use Rattle.clnp_machine.specs.System.{Input}
use Rattle.clnp_systems.specs.EntityState.{SystemEntityState}
use Rattle.clnp_systems.specs.Steps.{IsSpentIn, TakesStep}

pub keeps_role : {T E : Type 0} (r : Result T E) (input : Input) (old new : SystemEntityState) (before after : List Output) (role : Role)
    → OnOk r ((role : Role) → TakesStep role input old new before after) → OnErr r (IsSpentIn old new before after)
    → old.local.configuration.role ≡ role → new.local.configuration.role ≡ role
keeps_role (Ok value) input old new before after role took spent is = ap (λ (c : SystemConfiguration). c.role) (took role).config ∙ is
keeps_role (Err refused) input old new before after role took spent is = ap (λ (c : SystemConfiguration). c.role) spent.config ∙ is
