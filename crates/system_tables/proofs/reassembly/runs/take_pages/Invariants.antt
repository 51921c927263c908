-- So many pages are taken out.
use Rattle.std.proofs.Common.{◌≡◌, ◌+◌, ◌++◌, drop, take}
use Rattle.system_tables.proofs.reassembly.runs.take_pages.Given as goal

pub record AreTaken (l : goal.Live-loop) : Type 0 where
  pub items : l.pages.items ≡ take l.start l.initial.pages.items ++ drop (l.start + l.counter) l.initial.pages.items
  pub most : l.pages.most ≡ l.initial.pages.most

abbrev pub invariant-loop : goal.invariant-loop
invariant-loop l = AreTaken l
