-- The pages so far are marked.
use Rattle.std.proofs.Common.{◌≡◌, ◌-◌, ◌++◌, map, take, drop}
use Rattle.system_tables.specs.Reassembly.Runs.{marked}
use Rattle.system_tables.proofs.reassembly.runs.mark_pages.Given as goal

pub record AreMarked (l : goal.Live-loop-at) : Type 0 where
  pub items : l.pages.items ≡ take l.start l.initial.pages.items
      ++ (map (map (marked l.from l.to l.by)) (take (l.at - l.start) (drop l.start l.initial.pages.items)) ++ drop (l.at - l.start) (drop l.start l.initial.pages.items))
  pub most : l.pages.most ≡ l.initial.pages.most

abbrev pub invariant-loop-at : goal.invariant-loop-at
invariant-loop-at l = AreMarked l
