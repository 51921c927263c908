-- What an endpoint stands for, which has no buffers of its own.
use Rattle.clnp_machine.specs.Reassembly.State.{TableState}
use Rattle.clnp_machine.specs.System.{SystemState}
use Rattle.clnp_systems.specs.declared.endpoint.Endpoint.{Endpoint}
use Rattle.clnp_systems.specs.Local.{Stands}
use Rattle.clnp_systems.specs.LocalState.{EntityState}

-- the entity that it is part of, with this table
abbrev pub entity_of : Endpoint → TableState → EntityState
entity_of endpoint table =
    record { configuration = endpoint.config; identifiers = endpoint.pool; table = table; count = endpoint.units; pending = endpoint.pending }

-- with this table it stands for the state of a system
abbrev pub StandsWith : TableState → Endpoint → SystemState → Type 0
StandsWith table endpoint s = Stands (entity_of endpoint table) s
