-- Frames that come, one by one: what comes over the table of each, and the lines that tell of it.
use Rattle.std.specs.Prelude.{◌≡◌, ℕ, List, [], ◌∷◌, ◌++◌}
use Rattle.std.specs.List.{flat_map}
use Rattle.scenario.specs.ClnpPlan.ClnpViews.Extent.{Extent}
use Rattle.clnp_program.specs.FairCommands.Output.{account_text, told_line}
use Rattle.system_tables.specs.declared.fair_reassembly.came.Came.{Came}
use Rattle.system_tables.specs.declared.reassembly.table.TableLimits.{TableLimits}
use Rattle.system_tables.specs.Reassembly.Buffer.{Buffer}
use Rattle.system_tables.specs.Reassembly.State.{Stands, TableState}
use Rattle.system_tables.specs.FairReassembly.Behind.{StandBehind, Undergoes}
use Rattle.system_tables.specs.FairReassembly.Classes.{Effect, Shares, account_behind}
use Rattle.system_tables.specs.FairReassembly.Tables.{FairState}

-- An effect came over a table at a moment, and the lines that tell of it were appended.
pub record Tells (effect : TableLimits → List (Buffer Extent) → Effect) (moment : ℕ) (before after : List ℕ) (old new : TableState) : Type 0 where
  pub undergoes : Undergoes effect old new
  pub told : (buffers : List (Buffer Extent)) → Stands old buffers
      → after ≡ before ++ flat_map (told_line moment) (effect old.limits buffers).told

-- One frame more came: the tables stand behind it too, and its lines were appended.
pub record GoesOn (s : Shares) (frames : List Came) (came : Came) (new : FairState) (before after : List ℕ) : Type 0 where
  pub behind : StandBehind s (frames ++ came ∷ []) new
  pub told : after ≡ before ++ account_text (account_behind s frames came)
