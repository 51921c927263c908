-- What is so of an accepted text.
use Rattle.std.specs.Prelude.{◌^◌, ◌≤◌, ◌<◌, length}
use Rattle.std.specs.List.{AllByRecursion}
use Rattle.system_tables.specs.declared.fair_reassembly.came.Came.{Came}
use Rattle.system_tables.specs.FairReassembly.Claims.{budget_of_all}
use Rattle.system_tables.specs.FairReassembly.Tables.{AreDistinct, sources_of}
use Rattle.clnp_program.specs.FairCommands.Grammar.{Capture}

-- a frame of at most 70,000 octets, which came at a moment below 2 ^ 32
pub record IsInRange (came : Came) : Type 0 where
  pub moment : came.moment < 2 ^ 32
  pub few : length came.frame ≤ 70000

-- no source has two shares, all tables together hold at most so many octets, and each frame is in its ranges
pub record IsAccepted (capture : Capture) : Type 0 where
  pub distinct : AreDistinct (sources_of capture.shares.shares)
  pub budget : budget_of_all capture.shares ≤ 16777216
  pub in_range : AllByRecursion IsInRange capture.frames
