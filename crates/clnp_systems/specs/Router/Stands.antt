-- What a router of the code stands for.
use Rattle.clnp_machine.specs.ClnpPlan.declared.ask.SendRefusal.{SendRefusal}
use Rattle.clnp_machine.specs.System.{SystemState}
use Rattle.clnp_systems.specs.EntityStands as entity
use Rattle.clnp_systems.specs.Router.State.{RouterState}

-- a router stands for the state of a system, whatever its place
abbrev pub Stands : RouterState → SystemState → Type 0
Stands router s = entity.Stands router.entity s

-- a refused router is as before, but spent where memory was refused
abbrev pub IsLeftBy : SendRefusal → RouterState → RouterState → Type 0
IsLeftBy refusal before after = entity.IsLeftBy refusal before.entity after.entity
