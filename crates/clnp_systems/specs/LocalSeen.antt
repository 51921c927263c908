-- What the fields of an entity are to a contract, and what is always so of them.
use Rattle.std.specs.Prelude.{◌≤◌}
use Rattle.clnp_machine.specs.Reassembly.NoWhole.{HasNoWhole}
use Rattle.clnp_machine.specs.Reassembly.State.{TableState}
use Rattle.clnp_systems.specs.Endpoint.{entity_of}
use Rattle.clnp_systems.specs.LocalState.{EntityState}
use Rattle.clnp_systems.specs.declared.local.Local.TheInside.{Inside}

abbrev pub state_of : Inside → EntityState
state_of local = entity_of local.endpoint local.table

-- between two calls no buffer is whole; one that is kept no time would be due at once
pub record IsSound (table : TableState) : Type 0 where
  pub hold : 1 ≤ table.limits.hold
  pub none_whole : HasNoWhole table
