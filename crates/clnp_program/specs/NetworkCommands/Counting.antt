-- What the parts of the command `storm` come to: counting the lines of moves, and summing a run up.
use Rattle.std.specs.Prelude.{◌≡◌, ℕ, List, [], ◌∷◌, None, Some, Result, Ok, Err}
use Rattle.clnp_machine.specs.ScenarioPlan.Plan.{Plan}
use Rattle.clnp_machine.specs.ClnpPlan.declared.scenario_plan.event.Move.{Move}
use Rattle.clnp_machine.specs.ClnpNetwork.LabelledNetwork as network
use Rattle.clnp_machine.specs.ClnpNetwork.LabelledNetwork.{after}
use Rattle.clnp_machine.specs.ClnpNetwork.Run.{world_after, full_weight, moves_of_plan, stopped_at}
use Rattle.clnp_program.specs.ClnpWorld.Lines.{both, no_lines, risen, tally}
use Rattle.clnp_program.specs.ClnpWorld.State.{WorldState}
use Rattle.clnp_program.specs.ClnpWorld.Stands.{Stands}
use Rattle.clnp_program.specs.declared.clnp_world.lines.Counts.{Counts}
use Rattle.clnp_program.specs.declared.network_commands.play.Stop.{Stop}
use Rattle.clnp_program.specs.declared.network_commands.play.Stop.TheVariants as stop
use Rattle.clnp_program.specs.declared.network_commands.storm.Summary.{Summary}
use Rattle.clnp_program.specs.NetworkCommands.Storm.{summary_of}

-- what is counted of the lines of some moves
abbrev pub tally_of : Plan → network.LabelledNetwork → List Move → Counts
tally_of plan w [] = no_lines
tally_of plan w (move ∷ moves) = both (tally (after plan w move).lines) (tally_of plan (after plan w move).world moves)

-- the moves were made, before none of them was the network full, and their lines were counted
pub record Counted (plan : Plan) (model : network.LabelledNetwork) (moves : List Move) (code : WorldState) (counts : Counts) : Type 0 where
  pub room : full_weight plan model moves ≡ None
  pub stands : Stands code (world_after plan model moves)
  pub counted : counts ≡ risen no_lines (tally_of plan model moves)

-- why moves weren't all made and counted: the network was full before one of them, or memory was refused
abbrev pub StopsAt : Plan → network.LabelledNetwork → List Move → Stop → Type 0
StopsAt plan model moves (stop.WorldFull octets) = full_weight plan model moves ≡ Some octets
StopsAt plan model moves stop.WriteFault = ⊥
StopsAt plan model moves stop.NoMemory = Unit {0}

-- What summing up the run of a plan comes to: what it comes to, or why its moves weren't all made and counted.
abbrev pub SumOf : (seed : ℕ) → Plan → Result Summary Stop → Type 0
SumOf seed plan (Ok summary) = (stopped_at plan ≡ None) × (summary ≡ summary_of seed plan)
SumOf seed plan (Err refused) = StopsAt plan (network.first_world plan) (moves_of_plan plan) refused
