-- Tables without a whole buffer, and tables with one that was just made whole.
use Rattle.std.specs.Prelude.{ℕ, List}
use Rattle.pdus.specs.ClnpViews.Extent.{Extent}
use Rattle.system_tables.specs.declared.reassembly.segment.Key.{Key}
use Rattle.system_tables.specs.Reassembly.Buffer.{Buffer, undone, without}
use Rattle.system_tables.specs.Reassembly.Claims.{NoneIsWhole}
use Rattle.system_tables.specs.Reassembly.State.{TableState, Names, Stands}

-- a table stands for buffers of which none is whole, as before each segment that is offered
pub record HasNoWhole (table : TableState) : Type 0 where
  pub buffers : List (Buffer Extent)
  pub stands : Stands table buffers
  pub none_whole : NoneIsWhole buffers

-- the buffer at a slot is the only whole one, and isn't whole without its last segment
pub record IsCompleted (table : TableState) (slot : ℕ) : Type 0 where
  pub buffers : List (Buffer Extent)
  pub stands : Stands table buffers
  pub key : Key
  pub named : Names table slot key
  pub none_without : NoneIsWhole (without key buffers)
  pub none_undone : NoneIsWhole (undone key buffers)
