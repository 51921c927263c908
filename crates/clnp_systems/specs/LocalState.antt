-- What a contract sees of a pool of identifiers, and of the entity of a system.
use Rattle.std.specs.Prelude.{ℕ, List}
use Rattle.clnp_machine.specs.Reassembly.State.{TableState}
use Rattle.clnp_machine.specs.ClnpPlan.Configuration.{SystemConfiguration}
use Rattle.clnp_systems.specs.declared.pending.Request.{Request}

pub record PoolState : Type 0 where
  pub reuse : ℕ
  pub quiet : ℕ
  -- the moment of the last use of each identifier that was used, from 0 on
  pub moments : List ℕ
  pub next : ℕ

pub record EntityState : Type 0 where
  -- what the scenario says of the system
  pub configuration : SystemConfiguration
  pub identifiers : PoolState
  -- its reassembly buffers
  pub table : TableState
  -- the number of the last unit that it made
  pub count : ℕ
  -- its echo requests that are still to be answered, the oldest first
  pub pending : List Request
