-- What a contract sees of a simulated network.
use Rattle.std.specs.Prelude.{ℕ, List, Bool}
use Rattle.clnp_systems.specs.declared.system.System.{System}
use Rattle.clnp_program.specs.declared.clnp_world.copy.FrameCopy.{FrameCopy}

pub record NetworkState : Type 0 where
  pub clock : ℕ
  -- in the order of the declarations
  pub systems : List System
  -- of each subnetwork, the most octets that a frame on it may have
  pub mtus : List ℕ
  -- in the order of their numbers, which count from 1
  pub copies : List FrameCopy
  -- how many of the copies were settled or lost
  pub cursor : ℕ
  -- the octets of all copies, and 64 for each
  pub weight : ℕ

pub record WorldState : Type 0 where
  pub network : NetworkState
  -- memory was refused in a move
  pub spent : Bool
