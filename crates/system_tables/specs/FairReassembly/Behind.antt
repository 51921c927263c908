-- Tables behind frames: the buffers that they stand for, and what comes over one of them.
use Rattle.std.specs.Prelude.{◌≡◌, ℕ, List}
use Rattle.pdus.specs.ClnpViews.Extent.{Extent}
use Rattle.system_tables.specs.declared.reassembly.table.TableLimits.{TableLimits}
use Rattle.system_tables.specs.Reassembly.Buffer.{Buffer}
use Rattle.system_tables.specs.Reassembly.NoWhole.{HasNoWhole}
use Rattle.system_tables.specs.Reassembly.State.{Stands, TableState}
use Rattle.system_tables.specs.declared.fair_reassembly.came.Came.{Came}
use Rattle.system_tables.specs.FairReassembly.Classes.{Effect, Shares, class_buffers, limits_at}
use Rattle.system_tables.specs.FairReassembly.Tables.{At, FairState, Keeps, sources_of}

-- The tables stand behind some frames: each for the buffers of its class behind them, none of which is whole.
pub record StandBehind (s : Shares) (frames : List Came) (state : FairState) : Type 0 where
  pub sources : state.sources ≡ sources_of s.shares
  pub each : (place : ℕ) → At state place (Keeps (limits_at s place) (class_buffers s place frames))

-- An effect came over a table, whichever buffers it stood for.
pub record Undergoes (effect : TableLimits → List (Buffer Extent) → Effect) (old new : TableState) : Type 0 where
  pub stands : (buffers : List (Buffer Extent)) → Stands old buffers → Stands new (effect old.limits buffers).buffers
  pub none_whole : HasNoWhole old → HasNoWhole new
  pub limits : new.limits ≡ old.limits
