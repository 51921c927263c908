-- What a contract sees of the entity of a system.
use Rattle.std.specs.Prelude.{ℕ, Bool, List}
use Rattle.clnp_machine.specs.ClnpPlan.declared.config.PortConfig.{PortConfig}
use Rattle.clnp_machine.specs.SystemTables.declared.forwarding.routes.Routes.{Routes}
use Rattle.clnp_systems.specs.EsisState.{EsisState}
use Rattle.clnp_systems.specs.LocalState.{EntityState}

pub record SystemEntityState : Type 0 where
  -- what it does at its own addresses
  pub local : EntityState
  -- what it says of itself, and heard of others
  pub esis : EsisState
  -- its ports by their numbers, and its routes, as they are now
  pub ports : List PortConfig
  pub routes : Routes
  pub moment : ℕ
  -- it is congested
  pub congested : Bool
  -- memory was refused in a step of it
  pub spent : Bool
