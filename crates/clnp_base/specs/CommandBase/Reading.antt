-- What a call takes from a source, and what excuses an answer.
use Rattle.std.specs.Prelude.{◌≡◌, ℕ, ◌+◌, ◌≤◌, List, length, Option}
use Rattle.std.specs.Io.KnownBytes.{Consumes, IsAtEnd}
use Rattle.clnp_base.specs.CommandBase.ComesAs.{most_input}
use Rattle.clnp_base.specs.declared.command_base.status.Status.{Status}
use Rattle.clnp_base.specs.declared.command_base.status.Status.TheVariants.{ReadFault, WriteFault, NoMemory}

-- the text is all that was left in the source, isn't too long, and was read to its end
pub record ReadsWhole (before after : Option (List ℕ)) (text : List ℕ) : Type 0 where
  pub consumed : Consumes before after text
  pub within : length text ≤ most_input
  pub at_end : IsAtEnd after

-- One octet more was taken from the source than an input may have.
pub record TakesTooMany (left_before left_after : Option (List ℕ)) : Type 0 where
  pub came : List ℕ
  pub consumed : Consumes left_before left_after came
  pub beyond : length came ≡ most_input + 1

-- At most as many octets were taken from the source as an input may have.
pub record TakesWithin (left_before left_after : Option (List ℕ)) : Type 0 where
  pub came : List ℕ
  pub consumed : Consumes left_before left_after came
  pub within : length came ≤ most_input

-- The excuses for an answer that the words and the input don't call for: want of memory, which is
-- free, and a fault of the source or of the sink, which must have come in this call.
abbrev pub Excuses : Type 0 → Type 0 → Status → Type 0
Excuses read_rose write_rose NoMemory = Unit {0}
Excuses read_rose write_rose ReadFault = read_rose
Excuses read_rose write_rose WriteFault = write_rose
Excuses read_rose write_rose _ = ⊥
