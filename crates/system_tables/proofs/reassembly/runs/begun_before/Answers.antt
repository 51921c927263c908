-- The first of the pages tells of those behind it.
use Rattle.system_tables.proofs.ReassemblyFacts.Passing.{pages_begun}
use Rattle.system_tables.proofs.reassembly.runs.begun_before.Goals as goal

pub returns-then-begins_from-clause-others : goal.returns-then-begins_from-clause-others
returns-then-begins_from-clause-others c =
    pages_begun c.args.place c.begun_before-count.result c.args.pages.now c.page-then-count-len.result.now c.requires c.page-then-count-len.ensures
    (λ a b joined. c.begins_from-then-count-len.ensures a b c.if-begins_from.true joined)
