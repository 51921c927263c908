-- What a refused send leaves.
use Rattle.std.specs.Prelude.{◌≡◌, ℕ, List}
use Rattle.clnp_machine.specs.ClnpNetwork.LabelledNetwork.{LabelledNetwork, Step}
use Rattle.clnp_machine.specs.ClnpNetwork.Safe.{HandsUp}

-- the world is as it was, and nothing is handed up
pub record LeavesNothing (w : LabelledNetwork) (step : Step) : Type 0 where
  pub world : step.world ≡ w
  pub lines : (from to octets : List ℕ) → ¬ (HandsUp step.lines from to octets)
