-- No page is left.
use Rattle.std.proofs.Common.{◌+◌, length, map, ap, arith}
use Rattle.std.proofs.lemmas.List.{length-drop}
use Rattle.system_tables.specs.Reassembly.Pages.{groups_of, on_pages}
use Rattle.system_tables.proofs.ReassemblyFacts.Groups.{pages_cleared}
use Rattle.system_tables.proofs.reassembly.runs.Runs.clear.Goals as goal

pub invariant_of-self : goal.invariant_of-self
invariant_of-self c =
    let t = c.self.inside in (
      pages_cleared t.counts.items t.pages.items _ _ _ c.self.invariant.0 _ _ _
          (omega (arith, ap length c.take_pages.ensures.items, length-drop (0 + c.len-count.result) t.pages.items, c.len-count.ensures))
          c.clear.ensures.items c.take_pages.ensures.most,
      omega (arith, c.self.invariant.1, c.clear.ensures.room),
    )

pub returns-clause-groups : goal.returns-clause-groups
returns-clause-groups c = ap (λ l. map on_pages (groups_of l c.take_pages.new.pages.items)) c.clear.ensures.items
