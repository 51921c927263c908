-- What of a journal was written.
use Rattle.std.specs.Prelude.{◌≡◌, ℕ, List, ◌++◌, Option}
use Rattle.std.specs.Io.KnownBytes.{Appends}
use Rattle.clnp_machine.specs.ClnpPlan.declared.journal.Telling.{Telling}
use Rattle.clnp_machine.specs.ScenarioPlan.Plan.{Plan}
use Rattle.clnp_machine.specs.ClnpPlan.declared.scenario_plan.event.Move.{Move}
use Rattle.clnp_machine.specs.ClnpNetwork.LabelledNetwork.{LabelledNetwork, first_world}
use Rattle.clnp_machine.specs.ClnpNetwork.Run.{told_of, moves_made}

-- the lines of some of the moves, from the first on, and of no part of a move, were written
pub record AppendsMoves (form : Telling) (plan : Plan) (model : LabelledNetwork) (moves : List Move) (before after : Option (List ℕ)) : Type 0 where
  pub made : List Move
  pub later : List Move
  pub all : moves ≡ made ++ later
  pub appended : Appends before after (told_of form plan model made)

-- the journal, or the trace, of some of the moves that a scenario makes, from the first on, was written
abbrev pub AppendsWholeMoves : Telling → Plan → Option (List ℕ) → Option (List ℕ) → Type 0
AppendsWholeMoves form plan before after = AppendsMoves form plan (first_world plan) (moves_made plan) before after
