-- The pages so far have the other indices.
use Rattle.std.proofs.Common.{◌≡◌, ◌++◌, map, take, drop}
use Rattle.system_tables.specs.Reassembly.Runs.{renamed}
use Rattle.system_tables.proofs.reassembly.runs.rename_pages.Given as goal

pub record AreRenamed (l : goal.Live-loop-at) : Type 0 where
  pub items : l.pages.items ≡ map (map (renamed l.names)) (take l.at l.initial.pages.items) ++ drop l.at l.initial.pages.items
  pub most : l.pages.most ≡ l.initial.pages.most

abbrev pub invariant-loop-at : goal.invariant-loop-at
invariant-loop-at l = AreRenamed l
