-- The ticks among moves, and the time that a simulated network has for them.
use Rattle.std.specs.Prelude.{ℕ, ◌+◌, ◌<◌, ◌^◌, List, [], ◌∷◌}
use Rattle.clnp_machine.specs.ClnpPlan.declared.scenario_plan.event.Move.{Move}
use Rattle.clnp_machine.specs.ClnpPlan.declared.scenario_plan.event.Move.TheVariants.{One, SettleOne, LoseOne, TickOne, TickSystem}
use Rattle.clnp_machine.specs.ClnpNetwork.LabelledNetwork as network
use Rattle.clnp_program.specs.ClnpWorld.State.{WorldState}
use Rattle.clnp_program.specs.ClnpWorld.Stands.{Stands}

-- by how much a move sets the network's clock on, at most
abbrev pub tick_of : Move → ℕ
tick_of (One place) = 0
tick_of SettleOne = 0
tick_of LoseOne = 0
tick_of TickOne = 1
tick_of (TickSystem place) = 1

abbrev pub ticks_in : List Move → ℕ
ticks_in [] = 0
ticks_in (move ∷ moves) = tick_of move + ticks_in moves

-- the network stands for one whose clock has room for the ticks of moves that are to come
pub record HasTime (code : WorldState) (moves : List Move) : Type 0 where
  pub model : network.LabelledNetwork
  pub stands : Stands code model
  pub early : model.clock + ticks_in moves + 1 < 2 ^ 62
