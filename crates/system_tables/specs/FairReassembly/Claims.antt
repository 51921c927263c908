-- What is claimed of the tables of sources, and of what is told.
use Rattle.std.specs.Prelude.{◌≡◌, ◌≢◌, ℕ, ◌+◌, List, length, map, sum, slice_get}
use Rattle.std.specs.List.{range_with_len}
use Rattle.system_tables.specs.declared.reassembly.table.TableLimits.{TableLimits}
use Rattle.system_tables.specs.Reassembly.Buffer.{held}
use Rattle.system_tables.specs.declared.fair_reassembly.came.Came.{Came}
use Rattle.system_tables.specs.FairReassembly.Classes.{Shares, class_buffers}
use Rattle.system_tables.specs.FairReassembly.Tables.{FairState, limits_of}

-- every table but that at a place stayed as it was, and no table came or went
pub record OthersStay (place : ℕ) (before after : FairState) : Type 0 where
  pub sources : after.sources ≡ before.sources
  pub tables : length after.tables ≡ length before.tables
  pub others : (other : ℕ) → other ≢ place → slice_get after.tables other ≡ slice_get before.tables other

-- how many octets are held in all tables behind some frames, and how many may be
abbrev pub places_of : Shares → List ℕ
places_of s = range_with_len 0 (length s.shares + 1)

abbrev pub held_by_all : Shares → List Came → ℕ
held_by_all s frames = sum (map (λ place. held (class_buffers s place frames)) (places_of s))

abbrev pub budget_of_all : Shares → ℕ
budget_of_all s = sum (map (λ (limits : TableLimits). limits.budget) (limits_of s.others s.shares))
