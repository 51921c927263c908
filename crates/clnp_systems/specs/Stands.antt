-- What a system of the code stands for, be it a host or a router.
use Rattle.clnp_machine.specs.System.{SystemState}
use Rattle.clnp_machine.specs.ClnpPlan.Configuration.{SystemConfiguration}
use Rattle.clnp_machine.specs.ClnpPlan.declared.config.Role.{Role}
use Rattle.clnp_machine.specs.ClnpPlan.declared.config.Role.TheVariants as role
use Rattle.clnp_systems.specs.EntityState.{SystemEntityState}
use Rattle.clnp_systems.specs.EntityStands as entity
use Rattle.clnp_systems.specs.declared.system.System.{System}
use Rattle.clnp_systems.specs.declared.system.System.TheVariants.{Host, Router}

-- what it does whatever its role
abbrev pub entity_of : System → SystemEntityState
entity_of (Host host) = host.entity
entity_of (Router router) = router.entity

-- what it is, a host or a router
abbrev pub role_of : System → Role
role_of (Host host) = role.Host
role_of (Router router) = role.Router

-- what the scenario says of it
abbrev pub configuration_of : System → SystemConfiguration
configuration_of system = (entity_of system).local.configuration

-- a system stands for a state, whatever its place
abbrev pub Stands : System → SystemState → Type 0
Stands system s = entity.Stands (entity_of system) s
