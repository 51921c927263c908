-- The units so far begin where they should.
use Rattle.std.proofs.Common.{◌≡◌, sum, take}
use Rattle.system_tables.specs.Reassembly.Counts.{starts_from}
use Rattle.system_tables.proofs.reassembly.counts.set_starts.Given as goal

pub record AreSet (l : goal.Live-loop-at) : Type 0 where
  pub start : l.start ≡ sum (take l.at l.counts)
  pub set : take l.at l.starts ≡ take l.at (starts_from 0 l.counts)

abbrev pub invariant-loop-at : goal.invariant-loop-at
invariant-loop-at l = AreSet l
