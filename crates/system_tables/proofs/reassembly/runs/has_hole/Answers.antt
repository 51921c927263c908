-- A hole beside what was filled is one of the unit.
use Rattle.std.proofs.Common.{◌∙◌, ◌-◌, sym, arith}
use Rattle.system_tables.specs.Reassembly.Pages.{on_pages}
use Rattle.system_tables.proofs.ReassemblyFacts.Searching.{gap_within}
use Rattle.system_tables.proofs.reassembly.runs.has_hole.Goals as goal

pub returns-then-has_gap : goal.returns-then-has_gap
returns-then-has_gap c =
    sym (gap_within (c.args.from - c.min.result) c.args.from c.args.places (on_pages c.args.pages.now) (omega (arith, c.requires.within.0))
    (sym c.has_gap-2.ensures ∙ c.if-has_gap.true))

pub returns-then-has_gap-2 : goal.returns-then-has_gap-2
returns-then-has_gap-2 c =
    sym (gap_within c.args.to c.min-2.result c.args.places (on_pages c.args.pages.now) (omega (arith, c.min-2.ensures))
    (sym c.has_gap-3.ensures ∙ c.if-has_gap-2.true))
