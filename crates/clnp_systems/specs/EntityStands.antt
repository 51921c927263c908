-- What the entity of a system stands for.
use Rattle.std.specs.Prelude.{◌≡◌, ℕ, ◌<◌, ◌≤◌, ◌^◌, false, true, length}
use Rattle.std.specs.List.{AllByRecursion}
use Rattle.clnp_machine.specs.ClnpPlan.Configuration.{IsPort}
use Rattle.clnp_machine.specs.ClnpPlan.declared.ask.SendRefusal.{SendRefusal}
use Rattle.clnp_machine.specs.ClnpPlan.declared.ask.SendRefusal.TheVariants.{NoMemory}
use Rattle.clnp_machine.specs.System.{SystemState}
use Rattle.clnp_systems.specs.EsisStands as esis_entity
use Rattle.clnp_machine.specs.Forwarding.Stands as routing
use Rattle.clnp_systems.specs.Local as local_entity
use Rattle.clnp_systems.specs.EntityState.{SystemEntityState}

-- Its parts stand for the state of a system, whatever its place, where what had ended by an earlier moment is forgotten.
pub record PartsStandSince (before : ℕ) (entity : SystemEntityState) (s : SystemState) : Type 0 where
  pub local : local_entity.Stands entity.local s
  pub esis : esis_entity.StandsSince before entity.esis s
  pub ports : entity.ports ≡ s.attached.ports
  pub routes : routing.Stands entity.routes s.attached.routes
  pub moment : entity.moment ≡ s.moment
  pub congested : entity.congested ≡ s.congested
  pub since : before ≤ s.moment

-- and what has ended by its own moment
abbrev pub PartsStand : SystemEntityState → SystemState → Type 0
PartsStand entity s = PartsStandSince s.moment entity s

-- an entity stands for the state of a system
pub record Stands (entity : SystemEntityState) (s : SystemState) : Type 0 where
  pub not_spent : entity.spent ≡ false
  pub parts : PartsStand entity s

-- What is always so of it: while it isn't spent, it stands for some state.
pub record StandsForSome (entity : SystemEntityState) : Type 0 where
  pub state : SystemState
  pub stands : Stands entity state

-- and that each of its ports takes frames that are long enough, and that it has as many of them as it had at its start
pub record IsSound (entity : SystemEntityState) : Type 0 where
  pub moment : entity.moment < 2 ^ 62
  pub wide : AllByRecursion IsPort entity.ports
  pub number : length entity.ports ≡ length entity.local.configuration.ports
  pub some : entity.spent ≡ false → StandsForSome entity

-- a refused entity is as before, but spent where memory was refused
abbrev pub IsLeftBy : SendRefusal → SystemEntityState → SystemEntityState → Type 0
IsLeftBy NoMemory before after = after.spent ≡ true
IsLeftBy _ before after = after ≡ before
