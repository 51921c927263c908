-- What the commands call for that run a network, and what reads a scenario of version 1.
use Rattle.std.specs.Prelude.{◌≡◌, ℕ, List, [], Option, None, Some, Result, Ok, Err, IfOk, IsOk}
use Rattle.std.specs.Io.KnownBytes.{Appends}
use Rattle.clnp_machine.specs.ClnpBase.Streams.{AppendsFront}
use Rattle.clnp_machine.specs.ClnpPlan.declared.journal.Telling.{Telling}
use Rattle.clnp_machine.specs.ScenarioPlan.Plan.{Plan}
use Rattle.scenario.specs.Grammar.{BadLine, plan_of}
use Rattle.scenario.specs.ScenarioWriting.Migration.{migration_of}
use Rattle.clnp_machine.specs.ClnpNetwork.Run.{told, stopped_at}
use Rattle.clnp_base.specs.declared.command_base.status.Status.{Status}
use Rattle.clnp_base.specs.declared.command_base.status.Status.TheVariants.{Done, BadInput, WorldFull}
use Rattle.clnp_base.specs.CommandBase.ComesAs.{Task}
use Rattle.clnp_program.specs.NetworkCommands.Sim.{AppendsWholeMoves}
use Rattle.clnp_program.specs.NetworkCommands.Storm.{storm_line, storm_output, storm_stopped_at}

-- the status of a run that was stopped at a weight, or wasn't
abbrev pub run_status : Option ℕ → Status
run_status None = Done
run_status (Some octets) = WorldFull octets

abbrev pub scenario_status : Result Plan BadLine → Status
scenario_status (Ok plan) = run_status (stopped_at plan)
scenario_status (Err bad) = BadInput bad.line bad.code

abbrev pub told_by : Telling → Result Plan BadLine → List ℕ
told_by form (Ok plan) = told form plan
told_by form (Err bad) = []

-- the output that a scenario text calls for: its journal or its trace, which ends where the network is full; nothing where it
-- isn't one
abbrev pub output_of : Telling → List ℕ → List ℕ
output_of form text = told_by form (plan_of text)

-- `sim` and `trace`: the journal of a scenario, or its trace, of which whole moves are the parts
abbrev pub run_task : Telling → List ℕ → Task
run_task form text = record {
  calls = λ answered. scenario_status (plan_of text) ≡ answered;
  whole = λ before after. Appends before after (output_of form text);
  front = λ before after. IsOk (plan_of text) × AppendsFront before after (output_of form text);
  parts = λ before after. IsOk (plan_of text) × IfOk (plan_of text) (λ plan. AppendsWholeMoves form plan before after);
}

abbrev pub migration_status : Result (List ℕ) BadLine → Status
migration_status (Ok text) = Done
migration_status (Err bad) = BadInput bad.line bad.code

abbrev pub migrated_text : Result (List ℕ) BadLine → List ℕ
migrated_text (Ok text) = text
migrated_text (Err bad) = []

-- `migrate`: the text of the scenario in version 2, and nothing where the text is none of version 1; it has no parts
abbrev pub migrate_task : List ℕ → Task
migrate_task text = record {
  calls = λ answered. migration_status (migration_of text) ≡ answered;
  whole = λ before after. Appends before after (migrated_text (migration_of text));
  front = λ before after. IsOk (migration_of text) × AppendsFront before after (migrated_text (migration_of text));
  parts = λ before after. ⊥;
}

-- `storm`: the line of the run of the scenario of a seed, and nothing of one that was stopped; a line has no parts
abbrev pub storm_task : (seed : ℕ) → Task
storm_task seed = record {
  calls = λ answered. run_status (storm_stopped_at seed) ≡ answered;
  whole = λ before after. Appends before after (storm_output seed);
  front = λ before after. (storm_stopped_at seed ≡ None) × AppendsFront before after (storm_line seed);
  parts = λ before after. ⊥;
}
