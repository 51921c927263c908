-- What a contract sees of a host.
use Rattle.clnp_systems.specs.EntityState.{SystemEntityState}

pub record HostState : Type 0 where
  pub entity : SystemEntityState
