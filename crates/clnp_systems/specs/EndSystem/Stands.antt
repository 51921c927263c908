-- What a host of the code stands for.
use Rattle.clnp_machine.specs.ClnpPlan.declared.ask.SendRefusal.{SendRefusal}
use Rattle.clnp_machine.specs.System.{SystemState}
use Rattle.clnp_systems.specs.EntityStands as entity
use Rattle.clnp_systems.specs.EndSystem.State.{HostState}

-- a host stands for the state of a system, whatever its place
abbrev pub Stands : HostState → SystemState → Type 0
Stands host s = entity.Stands host.entity s

-- a refused host is as before, but spent where memory was refused
abbrev pub IsLeftBy : SendRefusal → HostState → HostState → Type 0
IsLeftBy refusal before after = entity.IsLeftBy refusal before.entity after.entity
