-- What playing moves comes to, and playing a scenario.
use Rattle.std.specs.Prelude.{◌≡◌, ℕ, List, ◌++◌, Option, None, Some, Result, Ok, Err}
use Rattle.std.specs.Io.KnownBytes.{Appends, Keeps}
use Rattle.clnp_machine.specs.ClnpBase.Streams.{AppendsFront}
use Rattle.clnp_machine.specs.ClnpPlan.declared.journal.Telling.{Telling}
use Rattle.clnp_machine.specs.ScenarioPlan.Plan.{Plan}
use Rattle.clnp_machine.specs.ClnpPlan.declared.scenario_plan.event.Move.{Move}
use Rattle.clnp_machine.specs.ClnpNetwork.LabelledNetwork as network
use Rattle.clnp_machine.specs.ClnpNetwork.Run.{told, told_of, world_after, full_weight, stopped_at, until_full}
use Rattle.clnp_program.specs.ClnpWorld.State.{WorldState}
use Rattle.clnp_program.specs.ClnpWorld.Stands.{Stands}
use Rattle.clnp_base.specs.declared.command_base.status.Status.{Status}
use Rattle.clnp_base.specs.declared.command_base.status.Status.TheVariants as status
use Rattle.clnp_program.specs.declared.network_commands.play.Stop.{Stop}
use Rattle.clnp_program.specs.declared.network_commands.play.Stop.TheVariants as stop
use Rattle.clnp_program.specs.NetworkCommands.Sim.{AppendsMoves, AppendsWholeMoves}

-- the status of a run that was stopped
abbrev pub status_of : Stop → Status
status_of (stop.WorldFull octets) = status.WorldFull octets
status_of stop.WriteFault = status.WriteFault
status_of stop.NoMemory = status.NoMemory

-- What writing a piece comes to: it was written; a front of it was; or nothing was.
abbrev pub PieceOf : {A : Type 0} → List ℕ → Option (List ℕ) → Option (List ℕ) → Result A Stop → Type 0
PieceOf piece before after (Ok _) = Appends before after piece
PieceOf piece before after (Err stop.WriteFault) = AppendsFront before after piece
PieceOf piece before after (Err stop.NoMemory) = Keeps before after
PieceOf piece before after (Err (stop.WorldFull octets)) = ⊥

-- The moves were made, and before none of them was the network full: the text of the first of them is written, and that
-- of the others waits in a block.
pub record UnderWay (form : Telling) (plan : Plan) (model : network.LabelledNetwork) (moves : List Move) (code : WorldState) (before after : Option (List ℕ)) (block : List ℕ) : Type 0 where
  pub made : List Move
  pub waiting : List Move
  pub split : moves ≡ made ++ waiting
  pub room : full_weight plan model moves ≡ None
  pub stands : Stands code (world_after plan model moves)
  pub appended : Appends before after (told_of form plan model made)
  pub waits : block ≡ told_of form plan (world_after plan model made) waiting

-- the network was full before one of the moves, and the text of those before it was written
pub record PlaysUntilFull (form : Telling) (plan : Plan) (model : network.LabelledNetwork) (moves : List Move) (octets : ℕ) (before after : Option (List ℕ)) : Type 0 where
  pub full : full_weight plan model moves ≡ Some octets
  pub appended : Appends before after (told_of form plan model (until_full plan model moves))

-- What was written where playing moves stopped: a front of the text of the moves that are made, or that of some whole
-- moves, or all of it where the network was full.
abbrev pub StopOf : Telling → Plan → network.LabelledNetwork → List Move → Option (List ℕ) → Option (List ℕ) → Stop
    → Type 0
StopOf form plan model moves before after stop.WriteFault = AppendsFront before after (told_of form plan model (until_full plan model moves))
StopOf form plan model moves before after stop.NoMemory = AppendsMoves form plan model (until_full plan model moves) before after
StopOf form plan model moves before after (stop.WorldFull octets) = PlaysUntilFull form plan model moves octets before after

-- What playing moves comes to: all of them were played, or it stopped.
abbrev pub PlayOf : {A : Type 0} → Telling → Plan → network.LabelledNetwork → List Move → WorldState → Option (List ℕ)
    → Option (List ℕ) → List ℕ → Result A Stop → Type 0
PlayOf form plan model moves code before after block (Ok _) = UnderWay form plan model moves code before after block
PlayOf form plan model moves code before after block (Err e) = StopOf form plan model moves before after e

-- What writing the block before a move comes to that isn't made since the network weighs so many octets.
abbrev pub FullOf : ℕ → List ℕ → Option (List ℕ) → Option (List ℕ) → Stop → Type 0
FullOf octets block before after (stop.WorldFull weighs) = (weighs ≡ octets) × Appends before after block
FullOf octets block before after stop.WriteFault = AppendsFront before after block
FullOf octets block before after stop.NoMemory = ⊥

-- what was written where playing a scenario stopped: a front of its journal or trace, or the text of some whole moves, or all of
-- it where the network was full
abbrev pub RunStopOf : Telling → Plan → Option (List ℕ) → Option (List ℕ) → Stop → Type 0
RunStopOf form plan before after stop.WriteFault = AppendsFront before after (told form plan)
RunStopOf form plan before after stop.NoMemory = AppendsWholeMoves form plan before after
RunStopOf form plan before after (stop.WorldFull octets) = (stopped_at plan ≡ Some octets) × Appends before after (told form plan)

-- What playing a scenario comes to.
abbrev pub RunOf : {A : Type 0} → Telling → Plan → Option (List ℕ) → Option (List ℕ) → Result A Stop → Type 0
RunOf form plan before after (Ok _) = (stopped_at plan ≡ None) × Appends before after (told form plan)
RunOf form plan before after (Err e) = RunStopOf form plan before after e
