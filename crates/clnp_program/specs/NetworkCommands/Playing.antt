-- Playing moves, whatever is made of their lines.
use Rattle.std.specs.Prelude.{◌≡◌, ℕ, List, Option, Result, Ok, Err}
use Rattle.clnp_machine.specs.ClnpPlan.declared.journal.Telling.{Telling}
use Rattle.clnp_machine.specs.ScenarioPlan.Plan.{Plan}
use Rattle.clnp_machine.specs.ClnpPlan.declared.scenario_plan.event.Move.{Move}
use Rattle.clnp_machine.specs.ClnpNetwork.LabelledNetwork as network
use Rattle.clnp_program.specs.ClnpWorld.State.{WorldState}
use Rattle.clnp_program.specs.declared.clnp_world.lines.Counts.{Counts}
use Rattle.clnp_program.specs.declared.network_commands.play.Stop.{Stop}
use Rattle.clnp_program.specs.NetworkCommands.Counting.{Counted, StopsAt}
use Rattle.clnp_program.specs.NetworkCommands.Play.{StopOf, UnderWay}

-- what is made of the lines of moves: their text is written, in a journal or in a trace, or they are counted
pub data Kind : Type 0 where
  Writing : Telling → Kind
  Counting : Kind

-- what there is of the lines so far, beside what was written: the text that waits in a block, or what is counted of them
pub data Played : Type 0 where
  Waits : Telling → (block : List ℕ) → Played
  Tallies : Counts → Played

-- the moves were made, and before none of them was the network full
abbrev pub IsUnderWay : Kind → Plan → network.LabelledNetwork → List Move → WorldState → (before after : Option (List ℕ)) → Played → Type 0
IsUnderWay (Writing form) plan model moves code before after (Waits telling block) =
    (telling ≡ form) × UnderWay form plan model moves code before after block
IsUnderWay (Writing form) plan model moves code before after (Tallies counts) = ⊥
IsUnderWay Counting plan model moves code before after (Waits telling block) = ⊥
IsUnderWay Counting plan model moves code before after (Tallies counts) = (after ≡ before) × Counted plan model moves code counts

-- what was written where playing moves stopped
abbrev pub StopAs : Kind → Plan → network.LabelledNetwork → List Move → (before after : Option (List ℕ)) → Stop → Type 0
StopAs (Writing form) plan model moves before after e = StopOf form plan model moves before after e
StopAs Counting plan model moves before after e = (after ≡ before) × StopsAt plan model moves e

-- What playing moves comes to: all of them were played, or it stopped.
abbrev pub PlayAs : {A : Type 0} → Kind → Plan → network.LabelledNetwork → List Move → WorldState → (before after : Option (List ℕ)) → Played
    → Result A Stop → Type 0
PlayAs kind plan model moves code before after played (Ok _) = IsUnderWay kind plan model moves code before after played
PlayAs kind plan model moves code before after played (Err e) = StopAs kind plan model moves before after e
