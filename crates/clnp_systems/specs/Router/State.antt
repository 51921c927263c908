-- What a contract sees of a router.
use Rattle.clnp_systems.specs.EntityState.{SystemEntityState}

pub record RouterState : Type 0 where
  pub entity : SystemEntityState
